-- The word of a pointer.
use Rattle.std.proofs.Common.{◌≡◌, ℕ, ◌+◌, ◌*◌, ◌/◌, ◌%◌, ◌^◌, ◌<◌, ◌==◌, ◌&&◌, ◌||◌, not, bit_and, refl, ap, ◌∙◌, arith}
use Rattle.std.proofs.lemmas.Grind.{common_steps}
use Rattle.std.proofs.lemmas.Nat.{and_block, and_le_r, and_mask}
use Rattle.arch_defs.specs.TableEntries.{pte_of}
use Rattle.stage_walk.specs.Words.{is_pointer}

-- digits, of which the first alone is 1
digits_of_pointer : (v r w x u a d reserved : ℕ) → v < 2 → r < 2 → w < 2 → x < 2 → u < 2 → a < 2 → d < 2
    → (v + r * 2 + w * 4 + x * 8 + u * 16 + a * 64 + d * 128 + reserved * 2 ^ 54 == 1)
    ≡ ((v == 1) && not ((w == 1) && not (r == 1)) && reserved == 0 && not ((r == 1) || (x == 1)) && not ((a == 1) || (d == 1) || (u == 1)))
digits_of_pointer v r w x u a d reserved hv hr hw hx hu ha hd = grind (arith, common_steps)

-- the bits of a word at which the mask of a pointer looks
masked : (word : ℕ) → word < 2 ^ 64 → bit_and word 0xFFC00000000000DF ≡ word / 2 ^ 54 * 2 ^ 54 + word / 64 % 4 * 64 + word % 32
masked word fits =
    let rest = word % 2 ^ 54 in
    let whole : word / 2 ^ 54 * 2 ^ 54 + rest ≡ word = omega arith in
    let mask : 1023 * 2 ^ 54 + 223 ≡ 0xFFC00000000000DF = refl in
    let top = and_block 54 (word / 2 ^ 54) 1023 rest 223 (omega arith) (omega arith) in
    let reserved : bit_and (word / 2 ^ 54) 1023 ≡ word / 2 ^ 54 % 2 ^ 10 = and_mask (word / 2 ^ 54) 10 in
    let low : rest / 32 * 32 + rest % 32 ≡ rest = omega arith in
    let five = and_block 5 (rest / 32) 6 (rest % 32) 31 (omega arith) (omega arith) in
    let flags : bit_and (rest % 32) 31 ≡ rest % 32 % 2 ^ 5 = and_mask (rest % 32) 5 in
    let next : rest / 64 * 2 + rest / 32 % 2 ≡ rest / 32 = omega arith in
    let one = and_block 1 (rest / 64) 3 (rest / 32 % 2) 0 (omega arith) (omega arith) in
    let marks : bit_and (rest / 64) 3 ≡ rest / 64 % 2 ^ 2 = and_mask (rest / 64) 2 in
    let none = and_le_r (rest / 32 % 2) 0 in
    omega (arith, ap (λ n. bit_and n 0xFFC00000000000DF) whole, ap (bit_and (word / 2 ^ 54 * 2 ^ 54 + rest)) mask, top, reserved, ap (λ n. bit_and n 223) low, five, flags, ap (λ n. bit_and n 6) next, one, marks, none, fits)

pub pointer_word : (word : ℕ) → word < 2 ^ 64 → (bit_and word 0xFFC00000000000DF == 1) ≡ is_pointer (pte_of word)
unfolding pte_of
pointer_word word fits =
    ap (λ n. n == 1) (masked word fits ∙ parts)
    ∙ digits_of_pointer (word / 2 ^ 0 % 2) (word / 2 ^ 1 % 2) (word / 2 ^ 2 % 2) (word / 2 ^ 3 % 2) (word / 2 ^ 4 % 2) (word / 2 ^ 6 % 2) (word / 2 ^ 7 % 2) (word / 2 ^ 54 % 2 ^ 10)
    (omega arith) (omega arith) (omega arith) (omega arith) (omega arith) (omega arith) (omega arith)
  where
    parts : word / 2 ^ 54 * 2 ^ 54 + word / 64 % 4 * 64 + word % 32
        ≡ word / 2 ^ 0 % 2 + word / 2 ^ 1 % 2 * 2 + word / 2 ^ 2 % 2 * 4 + word / 2 ^ 3 % 2 * 8 + word / 2 ^ 4 % 2 * 16 + word / 2 ^ 6 % 2 * 64 + word / 2 ^ 7 % 2 * 128
        + word / 2 ^ 54 % 2 ^ 10 * 2 ^ 54
    parts = omega (arith, fits)
