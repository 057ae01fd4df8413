-- Which accesses are illegal with V = 1.
use Rattle.std.specs.Prelude.{false, Option, Some, None, Result, Ok, Err}
use Rattle.std.proofs.Common.{◌≡◌, ℕ, refl, arith}
use Rattle.arch_defs.specs.declared.modes.Mode.TheVariants.{HS, VS, VU}
use Rattle.arch_defs.specs.declared.csr_names.CsrEnd.{CsrEnd}
use Rattle.arch_defs.specs.declared.csr_names.CsrEnd.TheVariants.{Illegal, Virtual}
use Rattle.arch_defs.specs.declared.registers.Csrs.{Csrs}
use Rattle.arch_defs.specs.declared.csr_names.Register.{Register}
use Rattle.arch_defs.specs.CsrNames.{register_of}
use Rattle.arch_defs.specs.CsrAccess.{named, named_to_write, reached_by, reached, reached_in_vs, reached_in_vu, read_csr, write_csr, value_of, written_by}
use Rattle.csr_file.specs.Laws.{is_illegal, IllegalAsInHs}

none_in_vs : (csrs : Csrs) (q : Register) → is_illegal (reached_in_vs csrs q) ≡ false
unfolding reached_in_vs
none_in_vs csrs q = grind arith

none_in_vu : (csrs : Csrs) (q : Register) → is_illegal (reached_in_vu csrs q) ≡ false
unfolding reached_in_vu
none_in_vu csrs q = grind arith

alike_in_vs : (csrs : Csrs) (q : Option Register) → is_illegal (reached_by csrs VS q) ≡ is_illegal (reached_by csrs HS q)
unfolding reached_by reached
alike_in_vs csrs None = refl
alike_in_vs csrs (Some q) = none_in_vs csrs q

alike_in_vu : (csrs : Csrs) (q : Option Register) → is_illegal (reached_by csrs VU q) ≡ is_illegal (reached_by csrs HS q)
unfolding reached_by reached
alike_in_vu csrs None = refl
alike_in_vu csrs (Some q) = none_in_vu csrs q

-- what is read or changed is not part of it
by_value : (csrs : Csrs) (x : Result Register CsrEnd) → is_illegal (value_of csrs x) ≡ is_illegal x
by_value csrs (Ok r) = refl
by_value csrs (Err Illegal) = refl
by_value csrs (Err Virtual) = refl

by_change : (csrs : Csrs) (x : Result Register CsrEnd) (v : ℕ) → is_illegal (written_by csrs x v) ≡ is_illegal x
by_change csrs (Ok r) v = refl
by_change csrs (Err Illegal) v = refl
by_change csrs (Err Virtual) v = refl

reads_alike : (csrs : Csrs) (x y : Result Register CsrEnd) → is_illegal x ≡ is_illegal y → is_illegal (value_of csrs x) ≡ is_illegal (value_of csrs y)
reads_alike csrs x y e = rw (by_value csrs x, by_value csrs y) e

writes_alike : (csrs : Csrs) (x y : Result Register CsrEnd) (v : ℕ) → is_illegal x ≡ is_illegal y → is_illegal (written_by csrs x v) ≡ is_illegal (written_by csrs y v)
writes_alike csrs x y v e = rw (by_change csrs x v, by_change csrs y v) e

to_write_in_vs : (csrs : Csrs) (number : ℕ) → is_illegal (named_to_write csrs VS number) ≡ is_illegal (named_to_write csrs HS number)
unfolding named_to_write
to_write_in_vs csrs number = grind (arith, alike_in_vs csrs (register_of number))

to_write_in_vu : (csrs : Csrs) (number : ℕ) → is_illegal (named_to_write csrs VU number) ≡ is_illegal (named_to_write csrs HS number)
unfolding named_to_write
to_write_in_vu csrs number = grind (arith, alike_in_vu csrs (register_of number))

pub illegal_as_in_hs : IllegalAsInHs
unfolding read_csr write_csr
illegal_as_in_hs csrs number v = (
  reads_alike csrs (named csrs VS number) (named csrs HS number) (alike_in_vs csrs (register_of number)),
  reads_alike csrs (named csrs VU number) (named csrs HS number) (alike_in_vu csrs (register_of number)),
  writes_alike csrs (named_to_write csrs VS number) (named_to_write csrs HS number) v (to_write_in_vs csrs number),
  writes_alike csrs (named_to_write csrs VU number) (named_to_write csrs HS number) v (to_write_in_vu csrs number),
)
