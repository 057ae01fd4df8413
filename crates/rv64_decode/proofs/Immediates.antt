-- Numbers of 32 bits as signed ones.
use lib.Signed.{shr_z}
use Rattle.std.proofs.Common.{cond, ◌≡◌, ℕ, suc, ◌+◌, ◌-◌, ◌*◌, ◌/◌, ◌^◌, ◌<◌, Bool, true, false, nat_lt, refl, ap, ◌∙◌, arith, pos, negsuc, to_z, of_z, w32, w64, ltb-true, ltb-false}
use Rattle.std.proofs.lemmas.Int.{of_z-to_z}
use Rattle.arch_defs.specs.Bits.{sign_extend}

shifted : (word : ℕ) → word < 2 ^ 32 → of_z w32 (shr_z (to_z w32 word) (2 ^ 20)) ≡ word / 2 ^ 20 + word / 2 ^ 31 * (2 ^ 32 - 2 ^ 12)
shifted word small = by (nat_lt word (2 ^ 31)) refl
  where
    by : (low : Bool) → nat_lt word (2 ^ 31) ≡ low → of_z w32 (shr_z (cond low (pos word) (negsuc (2 ^ 32 - suc word))) (2 ^ 20)) ≡ word / 2 ^ 20 + word / 2 ^ 31 * (2 ^ 32 - 2 ^ 12)
    by true is = omega (arith, ltb-true word (2 ^ 31) is)
    by false is = omega (arith, ltb-false word (2 ^ 31) is, small)

-- the upper twelve bits of a word, its sign bit repeated above them
pub upper_twelve : (word : ℕ) → word < 2 ^ 32
    → of_z w32 (to_z w32 (of_z w32 (shr_z (to_z w32 (of_z w32 (to_z w32 word))) (2 ^ 20)))) ≡ word / 2 ^ 20 + word / 2 ^ 31 * (2 ^ 32 - 2 ^ 12)
upper_twelve word small =
    ap (λ n. of_z w32 (to_z w32 (of_z w32 (shr_z (to_z w32 n) (2 ^ 20))))) (of_z-to_z w32 word small) ∙ ap (λ n. of_z w32 (to_z w32 n)) (shifted word small)
    ∙ of_z-to_z w32 (word / 2 ^ 20 + word / 2 ^ 31 * (2 ^ 32 - 2 ^ 12)) (omega (arith, small))

widened : (n : ℕ) → n < 2 ^ 32 → of_z w64 (to_z w32 n) ≡ n + n / 2 ^ 31 * (2 ^ 64 - 2 ^ 32)
widened n small = by (nat_lt n (2 ^ 31)) refl
  where
    by : (low : Bool) → nat_lt n (2 ^ 31) ≡ low → of_z w64 (cond low (pos n) (negsuc (2 ^ 32 - suc n))) ≡ n + n / 2 ^ 31 * (2 ^ 64 - 2 ^ 32)
    by true is = omega (arith, ltb-true n (2 ^ 31) is)
    by false is = omega (arith, ltb-false n (2 ^ 31) is, small)

-- a number of 32 bits, its sign bit repeated up to bit 63
pub extended_word : (n : ℕ) → n < 2 ^ 32 → of_z w64 (to_z w64 (of_z w64 (to_z w32 (of_z w32 (to_z w32 n))))) ≡ n + n / 2 ^ 31 * (2 ^ 64 - 2 ^ 32)
extended_word n small =
    ap (λ m. of_z w64 (to_z w64 (of_z w64 (to_z w32 m)))) (of_z-to_z w32 n small) ∙ ap (λ m. of_z w64 (to_z w64 m)) (widened n small)
    ∙ of_z-to_z w64 (n + n / 2 ^ 31 * (2 ^ 64 - 2 ^ 32)) (omega (arith, small))

-- the offset of a jump, by its sign and its other fields
pub jump_offset : (sign a b d : ℕ) → sign < 2 → a < 256 → b < 2 → d < 1024
    → sign_extend 21 (sign * 2 ^ 20 + a * 2 ^ 12 + b * 2 ^ 11 + d * 2) ≡ sign * (2 ^ 64 - 2 ^ 20) + (a * 2 ^ 12 + b * 2 ^ 11 + d * 2)
jump_offset sign a b d h0 h1 h2 h3 = by (nat_lt whole (2 ^ 20)) refl
  where
    whole : ℕ
    whole = sign * 2 ^ 20 + a * 2 ^ 12 + b * 2 ^ 11 + d * 2

    by : (positive : Bool) → nat_lt whole (2 ^ 20) ≡ positive
        → cond positive whole (whole + (2 ^ 64 - 2 ^ 21)) ≡ sign * (2 ^ 64 - 2 ^ 20) + (a * 2 ^ 12 + b * 2 ^ 11 + d * 2)
    by true is = omega (arith, ltb-true whole (2 ^ 20) is, h1, h2, h3)
    by false is = omega (arith, ltb-false whole (2 ^ 20) is, h0, h1, h2, h3)
