-- Tags: what they tell, and of which runs they are.
use Rattle.std.proofs.Common.{◌≡◌, ℕ, ◌+◌, ◌*◌, ◌/◌, ◌^◌, ◌<◌, ◌≤◌, ◌∙◌, Bool, true, false, refl, sym, subst, arith}
use Rattle.arch_defs.specs.declared.walks.Privilege.{Privilege}
use Rattle.translation_buffer.specs.declared.slots.Slot.{Slot}
use Rattle.translation_buffer.specs.declared.slots.Slots.{Slots}
use Rattle.translation_buffer.specs.Tags.{AllUpTo, IsUpTo, bit_of, run_bits, page_tag, who_bits}

bit_small : (b : Bool) → bit_of b ≤ 1
bit_small true = omega arith
bit_small false = omega arith

bits_small : (a b c page : ℕ) → a ≤ 1 → b ≤ 1 → c ≤ 1 → page < 4503599627370496 → 4503599627370496 * (a + 2 * b + 4 * c) + page < 36028797018963968
bits_small a b c page x y z small = omega (arith, x, y, z, small)

page_small : (va : ℕ) → va < 2 ^ 64 → va / 4096 < 4503599627370496
page_small va small = omega (arith, small)

under_run : (who : Privilege) (va : ℕ) → va < 2 ^ 64 → who_bits who + va / 4096 < 36028797018963968
under_run who va small = bits_small (bit_of who.user) (bit_of who.sum) (bit_of who.mxr) (va / 4096) (bit_small who.user) (bit_small who.sum) (bit_small who.mxr) (page_small va small)

-- a tag of a run is less than those of the next, and is not 0
pub tag_up_to : (run : ℕ) (who : Privilege) (va : ℕ) → va < 2 ^ 64 → page_tag run who va < run_bits (run + 1)
tag_up_to run who va small = by run (who_bits who) (va / 4096) (under_run who va small)
  where
    by : (run a b : ℕ) → a + b < 36028797018963968 → 36028797018963968 * (run + 1) + a + b < 36028797018963968 * (run + 1 + 1)
    by run a b less = omega (arith, less)

pub tag_small : (run : ℕ) (who : Privilege) (va : ℕ) → run ≤ 510 → va < 2 ^ 64 → page_tag run who va < 2 ^ 64
tag_small run who va few small = by run (page_tag run who va) few (tag_up_to run who va small)
  where
    by : (run tag : ℕ) → run ≤ 510 → tag < 36028797018963968 * (run + 1 + 1) → tag < 2 ^ 64
    by run tag few less = omega (arith, few, less)

pub tag_some : (run : ℕ) (who : Privilege) (va : ℕ) → 0 < page_tag run who va
tag_some run who va = by run (who_bits who) (va / 4096)
  where
    by : (run a b : ℕ) → 0 < 36028797018963968 * (run + 1) + a + b
    by run a b = omega arith

bits_same : (a b c p d e f q : ℕ) → a ≤ 1 → b ≤ 1 → c ≤ 1 → p < 4503599627370496 → d ≤ 1 → e ≤ 1 → f ≤ 1 → q < 4503599627370496
    → 4503599627370496 * (a + 2 * b + 4 * c) + p ≡ 4503599627370496 * (d + 2 * e + 4 * f) + q → (a ≡ d) × (b ≡ e) × (c ≡ f) × (p ≡ q)
bits_same a b c p d e f q x y z u i j k v same =
    (omega (arith, x, y, z, u, i, j, k, v, same), omega (arith, x, y, z, u, i, j, k, v, same), omega (arith, x, y, z, u, i, j, k, v, same), omega (arith, x, y, z, u, i, j, k, v, same))

bit_same : (a b : Bool) → bit_of a ≡ bit_of b → a ≡ b
bit_same true true same = refl
bit_same true false same = absurd (omega (arith, same))
bit_same false true same = absurd (omega (arith, same))
bit_same false false same = refl

who_same : (who other : Privilege) → who.user ≡ other.user → who.sum ≡ other.sum → who.mxr ≡ other.mxr → who ≡ other
who_same who other user sum mxr = rw (user, sum, mxr) refl

same_under : (r a b c d : ℕ) → r + a + b ≡ r + c + d → a + b ≡ c + d
same_under r a b c d same = omega (arith, same)

pub tag_tells : (run : ℕ) (who other : Privilege) (va near : ℕ) → va < 2 ^ 64 → near < 2 ^ 64 → page_tag run who va ≡ page_tag run other near → (who ≡ other) × (va / 4096 ≡ near / 4096)
tag_tells run who other va near small near_small same =
    let parts = bits_same (bit_of who.user) (bit_of who.sum) (bit_of who.mxr) (va / 4096) (bit_of other.user) (bit_of other.sum) (bit_of other.mxr) (near / 4096)
    (bit_small who.user) (bit_small who.sum) (bit_small who.mxr) (page_small va small) (bit_small other.user) (bit_small other.sum) (bit_small other.mxr) (page_small near near_small)
    (same_under (run_bits run) (who_bits who) (va / 4096) (who_bits other) (near / 4096) same) in
    (who_same who other (bit_same who.user other.user parts.0) (bit_same who.sum other.sum parts.1) (bit_same who.mxr other.mxr parts.2), parts.3)

-- no translation
pub none_of_tag : (run : ℕ) (who : Privilege) (va : ℕ) (slot : Slot) → slot.tag ≡ 0 → slot.tag ≡ page_tag run who va → ⊥
none_of_tag run who va slot none tag = by (page_tag run who va) (tag_some run who va) (sym none ∙ tag)
  where
    by : (n : ℕ) → 0 < n → 0 ≡ n → ⊥
    by n some is = omega (arith, some, is)

pub none_up_to : (run : ℕ) (slot : Slot) → slot.tag ≡ 0 → IsUpTo run slot
none_up_to run slot none = subst (λ n. n < run_bits (run + 1)) (sym none) (by run)
  where
    by : (run : ℕ) → 0 < 36028797018963968 * (run + 1 + 1)
    by run = omega arith

-- what is of no later run is of none after the next one, and not of the next
pub up_to_more : (run : ℕ) (slots : Slots) → AllUpTo run slots → AllUpTo (run + 1) slots
up_to_more run slots all kind k d inside = by run _ (all kind k d inside)
  where
    by : (run tag : ℕ) → tag < 36028797018963968 * (run + 1 + 1) → tag < 36028797018963968 * (run + 1 + 1 + 1)
    by run tag less = omega (arith, less)

pub later_tag : (run : ℕ) (who : Privilege) (va : ℕ) (slot : Slot) → IsUpTo run slot → slot.tag ≡ page_tag (run + 1) who va → ⊥
later_tag run who va slot up_to tag = by run slot.tag (who_bits who) (va / 4096) up_to tag
  where
    by : (run tag a b : ℕ) → tag < 36028797018963968 * (run + 1 + 1) → tag ≡ 36028797018963968 * (run + 1 + 1) + a + b → ⊥
    by run tag a b less is = omega (arith, less, is)
