-- A number that is made of bytes, the highest first.
use Rattle.byteorder.specs.Endian.{little_from}
use Rattle.std.proofs.Common.{arith, ◌≡◌, ◌∙◌, ℕ, zero, suc, ◌+◌, ◌-◌, ◌*◌, ◌^◌, ◌<◌, ◌≤◌, List, drop, slice_index, refl, ap, sym}
use Rattle.std.proofs.Math.Nat.{pow-le-pow_right}
use Rattle.std.proofs.lemmas.List.{get_or-drop}
use Rattle.arch_defs.specs.Memory.{load}

-- the number in the bytes from this one on
abbrev pub rest_from : List ℕ → ℕ → ℕ → ℕ → ℕ
rest_from ram offset at width = little_from at (width - at) (drop offset ram)

pub none_left : (ram : List ℕ) (offset at width : ℕ) → width ≤ at → 0 ≡ rest_from ram offset at width
none_left ram offset at width past = let none : width - at ≡ 0 = omega (arith, past) in rw none refl

pub one_more : (ram : List ℕ) (offset at width value byte : ℕ) → 0 < at → at ≤ width → value ≡ rest_from ram offset at width
    → byte ≡ slice_index ram (offset + (at - 1)) → value * 256 + byte ≡ rest_from ram offset (at - 1) width
one_more ram offset zero width value byte some within is there = absurd (omega (arith, some))
one_more ram offset (suc k) width value byte some within is there =
    let at : suc k - 1 ≡ k = omega arith in
    let more : width - k ≡ suc (width - suc k) = omega (arith, within) in
    let byte_is : byte ≡ slice_index (drop offset ram) k =
    there ∙ ap (λ i. slice_index ram (offset + i)) at ∙ sym (get_or-drop offset ram k 0) in
    rw (at, more, is, byte_is) (omega arith)

pub whole : (ram : List ℕ) (offset at width value : ℕ) → at ≤ 0 → value ≡ rest_from ram offset at width → value ≡ load ram offset width
whole ram offset zero width value none is =
    let all : width - 0 ≡ width = omega arith in is ∙ ap (λ n. little_from 0 n (drop offset ram)) all
whole ram offset (suc k) width value none is = absurd (omega (arith, none))

-- it is small
pub small_at_first : (width : ℕ) → 0 < 256 ^ (width - width)
small_at_first width = let none : width - width ≡ 0 = omega arith in rw none (omega arith)

pub smaller : (value byte at width : ℕ) → 0 < at → at ≤ width → byte < 256 → value < 256 ^ (width - at) → value * 256 + byte < 256 ^ (width - (at - 1))
smaller value byte zero width some within few small = absurd (omega (arith, some))
smaller value byte (suc k) width some within few small =
    let at : suc k - 1 ≡ k = omega arith in
    let more : width - k ≡ suc (width - suc k) = omega (arith, within) in
    rw (at, more) (omega (arith, few, small))

pub small_enough : (value at width : ℕ) → 0 < at → at ≤ width → width ≤ 8 → value < 256 ^ (width - at) → value < 2 ^ 56
small_enough value at width some within narrow small =
    let few : width - at ≤ 7 = omega (arith, some, narrow) in
    let most : 256 ^ (width - at) ≤ 256 ^ 7 = pow-le-pow_right {n = 256} (omega arith) {j = 7} few in
    omega (arith, small, most)

pub ruleset numbers = (none_left, whole, small_at_first)
