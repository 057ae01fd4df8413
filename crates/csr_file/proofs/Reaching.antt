-- A read by the mode and number of a write reaches the register that was written.
use Rattle.std.specs.Prelude.{Option, Some, None, Ok}
use Rattle.std.proofs.Common.{◌≡◌, ℕ, ap, arith}
use Rattle.arch_defs.specs.declared.modes.Mode.{Mode}
use Rattle.arch_defs.specs.declared.modes.Mode.TheVariants.{HS, U, VS, VU}
use Rattle.arch_defs.specs.declared.registers.Csrs.{Csrs}
use Rattle.arch_defs.specs.declared.csr_names.Register.{Register}
use Rattle.arch_defs.specs.CsrNames.{register_of}
use Rattle.arch_defs.specs.CsrAccess.{named_to_write, reached_by, reached, reached_in_u, reached_in_vs, reached_in_vu, written, read_csr, write_csr, value_of, written_by}
use Rattle.csr_file.specs.Laws.{ReadsWhatWasWritten}

-- time is not written, so it stays in reach
still_in_u : (csrs : Csrs) (q r : Register) (v : ℕ) → reached_in_u csrs q ≡ Ok r → reached_in_u (written csrs r v) q ≡ Ok r
unfolding reached_in_u written
still_in_u csrs q r v e = grind arith

still_in_vu : (csrs : Csrs) (q r : Register) (v : ℕ) → reached_in_vu csrs q ≡ Ok r → reached_in_vu (written csrs r v) q ≡ Ok r
unfolding reached_in_vu written
still_in_vu csrs q r v e = grind arith

still_in_vs : (csrs : Csrs) (q r : Register) (v : ℕ) → reached_in_vs csrs q ≡ Ok r → reached_in_vs (written csrs r v) q ≡ Ok r
unfolding reached_in_vs written
still_in_vs csrs q r v e = grind arith

still : (csrs : Csrs) (mode : Mode) (q r : Register) (v : ℕ) → reached csrs mode q ≡ Ok r → reached (written csrs r v) mode q ≡ Ok r
unfolding reached
still csrs HS q r v e = e
still csrs U q r v e = still_in_u csrs q r v e
still csrs VS q r v e = still_in_vs csrs q r v e
still csrs VU q r v e = still_in_vu csrs q r v e

still_by : (csrs : Csrs) (mode : Mode) (q : Option Register) (r : Register) (v : ℕ) → reached_by csrs mode q ≡ Ok r
    → reached_by (written csrs r v) mode q ≡ Ok r
unfolding reached_by
still_by csrs mode None r v e = grind arith
still_by csrs mode (Some q) r v e = still csrs mode q r v e

-- what a write reaches a read reaches
reached_to_write : (csrs : Csrs) (mode : Mode) (number : ℕ) (r : Register) → named_to_write csrs mode number ≡ Ok r
    → reached_by csrs mode (register_of number) ≡ Ok r
unfolding named_to_write
reached_to_write csrs mode number r e = grind arith

pub reads_what_was_written : ReadsWhatWasWritten
unfolding read_csr write_csr
reads_what_was_written csrs mode number v r e = (
  ap (λ x. written_by csrs x v) e,
  ap (value_of (written csrs r v)) (still_by csrs mode (register_of number) r v (reached_to_write csrs mode number r e)),
)
