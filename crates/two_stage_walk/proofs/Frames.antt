-- Memory of whole frames has the frame of each byte that it has, and each aligned doubleword.
use Rattle.std.proofs.Common.{◌≡◌, ℕ, ◌+◌, ◌-◌, ◌*◌, ◌/◌, ◌%◌, ◌<◌, ◌≤◌, ◌⊎◌, inl, inr, Bool, true, false, ◌&&◌, nat_le, leb, length, Some, None, is_some, if◌then◌else◌, refl, sym, ◌∙◌, arith}
use Rattle.std.proofs.lemmas.Bool.{and_from, le-leb}
use Rattle.std.proofs.lemmas.Bool.Decides.{leb_tells}
use Rattle.arch_defs.specs.Memory.{Memory, load}
use Rattle.arch_defs.specs.SecondStage.{has_frame_of}
use Rattle.phys_mem.specs.MemoryBytes.{IsWhole, number_at}
use Rattle.two_stage_walk.specs.Places.{IsPlaceOf}

-- two tests that follow from each other are one
told_alike : (a b c d : ℕ) → (a ≤ b → c ≤ d) → (c ≤ d → a ≤ b)
    → ((leb a b ≡ true) × (a ≤ b)) ⊎ ((leb a b ≡ false) × (b < a)) → ((leb c d ≡ true) × (c ≤ d)) ⊎ ((leb c d ≡ false) × (d < c)) → leb a b ≡ leb c d
told_alike a b c d there back (inl (e, p)) (inl (f, q)) = e ∙ sym f
told_alike a b c d there back (inl (e, p)) (inr (f, q)) = let r : c ≤ d = there p in absurd (omega (arith, r, q))
told_alike a b c d there back (inr (e, p)) (inl (f, q)) = let r : a ≤ b = back q in absurd (omega (arith, r, p))
told_alike a b c d there back (inr (e, p)) (inr (f, q)) = e ∙ sym f

tests_alike : (a b c d : ℕ) → (a ≤ b → c ≤ d) → (c ≤ d → a ≤ b) → nat_le a b ≡ nat_le c d
tests_alike a b c d there back = told_alike a b c d there back (leb_tells a b) (leb_tells c d)

from_alike : (base place : ℕ) → base % 4096 ≡ 0 → nat_le base (place / 4096 * 4096) ≡ nat_le base place
from_alike base place whole = tests_alike base (place / 4096 * 4096) base place (λ h. omega arith) (λ h. omega arith)

to_alike : (most place : ℕ) → most % 4096 ≡ 0 → nat_le (place / 4096 * 4096 + 4096) most ≡ nat_le (place + 1) most
to_alike most place whole = tests_alike (place / 4096 * 4096 + 4096) most (place + 1) most (λ h. omega arith) (λ h. omega arith)

both_whole : (base size : ℕ) → base % 4096 ≡ 0 → size % 4096 ≡ 0 → (base + size) % 4096 ≡ 0
both_whole base size a b = omega arith

-- whether there is a number is the test for it
some_number : (test : Bool) (n : ℕ) → is_some (if test then Some n else None) ≡ test
some_number true n = refl
some_number false n = refl

pub byte_of_frame : (memory : Memory) (place : ℕ) → IsWhole memory → is_some (number_at memory place 1) ≡ has_frame_of memory place
byte_of_frame memory place whole = by memory.base (length memory.bytes) (load memory.bytes (place - memory.base) 1) whole.aligned whole.size
  where
    by : (base size n : ℕ) → base % 4096 ≡ 0 → size % 4096 ≡ 0 → is_some (if nat_le base place && nat_le (place + 1) (base + size) then Some n else None)
        ≡ (nat_le base (place / 4096 * 4096) && nat_le (place / 4096 * 4096 + 4096) (base + size))
    by base size n a b =
        some_number (nat_le base place && nat_le (place + 1) (base + size)) n
        ∙ rw (from_alike base place a, to_alike (base + size) place (both_whole base size a b)) refl

-- an aligned doubleword
doubleword_fits : (base size place : ℕ) → base % 4096 ≡ 0 → size % 4096 ≡ 0 → place % 8 ≡ 0 → place < base + size → place + 8 ≤ base + size
doubleword_fits base size place a b c h = omega arith

pub doubleword : (memory : Memory) (address place : ℕ) → IsWhole memory → IsPlaceOf memory address place → place % 8 ≡ 0
    → number_at memory place 8 ≡ Some (load memory.bytes (place - memory.base) 8)
doubleword memory address place whole is aligned =
    rw (and_from (nat_le memory.base place) (nat_le (place + 8) (memory.base + length memory.bytes)) (le-leb memory.base place is.from)
    (le-leb (place + 8) (memory.base + length memory.bytes) (doubleword_fits memory.base (length memory.bytes) place whole.aligned whole.size aligned is.to))) refl
