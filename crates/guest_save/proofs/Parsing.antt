-- Steps of loops that read bytes and registers.
use Rattle.std.specs.Prelude.{map, slice_index}
use Rattle.std.proofs.Common.{◌≡◌, ℕ, zero, suc, ◌+◌, ◌*◌, ◌<◌, ◌≤◌, Bool, List, [], ◌∷◌, ◌++◌, length, take, drop, get_or, set, refl, ap, ◌∙◌, sym, arith}
use Rattle.std.proofs.lemmas.List.{drop_all, drop_more, map_more, take_more_set}
use Rattle.arch_defs.specs.declared.csr_names.Register.{Register}
use Rattle.arch_defs.specs.declared.registers.Csrs.{Csrs}
use Rattle.arch_defs.specs.Bits.{bit}
use Rattle.arch_defs.specs.CsrAccess.{shown, written}
use Rattle.arch_defs.specs.Registers.{csrs_at_reset}
use Rattle.arch_defs.specs.Spaces.{Space}
use Rattle.guest_save.proofs.Eights.{after_more, items_more}
use Rattle.guest_save.specs.Numbers.{items_in, number_in, leading_numbers}
use Rattle.guest_save.specs.Reading.{after_space, after_spaces, space_in, leading_spaces}
use Rattle.guest_save.specs.Registers.{after_sip, all_written, before_sip, csrs_in, with_ssip}

-- no item yet, one more, and what is left behind it
module _ {A : Type 0} (item : List ℕ → A) (size : ℕ) where
  pub none_read : (bytes : List ℕ) → [] ≡ items_in item size 0 bytes
  unfolding items_in
  none_read bytes = refl

  pub one_read : (before new : List A) (count : ℕ) (bytes rest : List ℕ) (x : A) → before ≡ items_in item size count bytes → rest ≡ drop (size * count) bytes
      → x ≡ item rest → new ≡ before ++ x ∷ [] → new ≡ items_in item size (count + 1) bytes
  one_read before new count bytes rest x is place read pushed =
      pushed ∙ ap (λ (xs : List A). xs ++ x ∷ []) is ∙ ap (λ (y : A). items_in item size count bytes ++ y ∷ []) (read ∙ ap item place)
      ∙ sym (items_more item size count bytes)

  pub left_then : (count : ℕ) (bytes rest after : List ℕ) → rest ≡ drop (size * count) bytes → after ≡ drop size rest → after ≡ drop (size * (count + 1)) bytes
  left_then count bytes rest after place is = is ∙ ap (λ (xs : List ℕ). drop size xs) place ∙ after_more item size count bytes

-- and of spaces
pub no_spaces : (bytes : List ℕ) → [] ≡ leading_spaces 0 bytes
unfolding leading_spaces
no_spaces bytes = refl

pub none_after : (bytes : List ℕ) → bytes ≡ after_spaces 0 bytes
unfolding after_spaces
none_after bytes = refl

after_next : (count : ℕ) (bytes : List ℕ) → after_space (after_spaces count bytes) ≡ after_spaces (suc count) bytes
unfolding after_spaces
after_next zero bytes = refl
after_next (suc count) bytes = after_next count (after_space bytes)

pub after_one : (count : ℕ) (bytes rest after : List ℕ) → rest ≡ after_spaces count bytes → after ≡ after_space rest → after ≡ after_spaces (count + 1) bytes
after_one count bytes rest after place is =
    let next : count + 1 ≡ suc count = omega arith in
    is ∙ ap after_space place ∙ after_next count bytes ∙ ap (λ (n : ℕ). after_spaces n bytes) (sym next)

space_next : (count : ℕ) (bytes : List ℕ) → leading_spaces (suc count) bytes ≡ leading_spaces count bytes ++ space_in (after_spaces count bytes) ∷ []
unfolding leading_spaces after_spaces
space_next zero bytes = refl
space_next (suc count) bytes = ap (λ (xs : List Space). space_in bytes ∷ xs) (space_next count (after_space bytes))

pub one_space : (before new : List Space) (count : ℕ) (bytes rest : List ℕ) (s : Space) → before ≡ leading_spaces count bytes → rest ≡ after_spaces count bytes
    → s ≡ space_in rest → new ≡ before ++ s ∷ [] → new ≡ leading_spaces (count + 1) bytes
one_space before new count bytes rest s is place read pushed =
    let next : count + 1 ≡ suc count = omega arith in
    pushed ∙ ap (λ (xs : List Space). xs ++ s ∷ []) is ∙ ap (λ (x : Space). leading_spaces count bytes ++ x ∷ []) (read ∙ ap space_in place)
    ∙ sym (space_next count bytes) ∙ ap (λ (n : ℕ). leading_spaces n bytes) (sym next)

-- the registers of 29 numbers
pub csrs_of_numbers : (ns tail : List ℕ) (reset first last : Csrs) (software : Bool) → reset ≡ csrs_at_reset → first ≡ all_written reset before_sip ns
    → software ≡ bit 0 (slice_index ns 9) → tail ≡ drop 10 ns → last ≡ all_written (record first { sip = record first.sip { software = software } }) after_sip tail
    → last ≡ csrs_in ns
unfolding csrs_in
csrs_of_numbers ns tail reset first last software is_reset is_first is_software is_tail is_last =
    is_last ∙ ap (λ (t : List ℕ). all_written (record first { sip = record first.sip { software = software } }) after_sip t) is_tail
    ∙ ap (λ (b : Bool). all_written (record first { sip = record first.sip { software = b } }) after_sip (drop 10 ns)) is_software
    ∙ ap (λ (f : Csrs). all_written (with_ssip f (slice_index ns 9)) after_sip (drop 10 ns)) (is_first ∙ ap (λ (r : Csrs). all_written r before_sip ns) is_reset)

-- one more number was read
pub one_more_number : (into : List ℕ) (i v : ℕ) (rest bytes : List ℕ) → i < length into → rest ≡ drop (8 * i) bytes → v ≡ number_in rest
    → take i into ≡ leading_numbers i bytes → take (i + 1) (set into i v) ≡ leading_numbers (i + 1) bytes
one_more_number into i v rest bytes within place is before =
    take_more_set into i v within ∙ ap (λ (xs : List ℕ). xs ++ v ∷ []) before
    ∙ ap (λ (x : ℕ). leading_numbers i bytes ++ x ∷ []) (is ∙ ap number_in place) ∙ sym (items_more number_in 8 i bytes)

-- one more register was shown
pub one_more_shown : (csrs : Csrs) (registers : List Register) (into : List ℕ) (i v : ℕ) (d : Register) → i < length registers → i < length into
    → v ≡ shown csrs (get_or registers i d) → take i into ≡ map (shown csrs) (take i registers)
    → take (i + 1) (set into i v) ≡ map (shown csrs) (take (i + 1) registers)
one_more_shown csrs registers into i v d named within is before =
    take_more_set into i v within ∙ ap (λ (xs : List ℕ). xs ++ v ∷ []) before
    ∙ ap (λ (x : ℕ). map (shown csrs) (take i registers) ++ x ∷ []) is ∙ sym (map_more (shown csrs) registers i d named)

-- one more was written, and none is left
pub all_written_goes : (csrs : Csrs) (registers : List Register) (numbers : List ℕ) (i : ℕ) (d : Register) → i < length registers → i < length numbers
    → all_written csrs (drop i registers) (drop i numbers)
    ≡ all_written (written csrs (get_or registers i d) (get_or numbers i 0)) (drop (i + 1) registers) (drop (i + 1) numbers)
all_written_goes csrs registers numbers i d named within = rw (drop_more registers i d named, drop_more numbers i 0 within) refl

pub all_written_ends : (csrs : Csrs) (registers : List Register) (numbers : List ℕ) (i : ℕ) → length registers ≤ i
    → all_written csrs (drop i registers) (drop i numbers) ≡ csrs
all_written_ends csrs registers numbers i all = rw (drop_all i registers all) refl
