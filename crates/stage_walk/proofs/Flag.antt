-- A flag in a word, as a bit.
use Rattle.std.proofs.Common.{◌≡◌, ℕ, zero, suc, ◌+◌, ◌*◌, ◌/◌, ◌%◌, ◌^◌, ◌<◌, ◌==◌, ap, bit_and, arith}
use Rattle.std.proofs.lemmas.Nat.{pow_pos, and_block, and_mask, and_le_r, shr_split}
use Rattle.arch_defs.specs.Bits.{bit}

-- one bit of a word, in its place
and_flag : (word k : ℕ) → bit_and word (2 ^ k) ≡ (word / 2 ^ k % 2) * 2 ^ k
and_flag word k =
    let some = pow_pos k in
    let whole : word / 2 ^ k * 2 ^ k + word % 2 ^ k ≡ word = omega (arith, shr_split word k) in
    let flag : 1 * 2 ^ k + 0 ≡ 2 ^ k = omega arith in
    let block = and_block k (word / 2 ^ k) 1 (word % 2 ^ k) 0 (omega arith) some in
    let low : bit_and (word / 2 ^ k) 1 ≡ word / 2 ^ k % 2 = and_mask (word / 2 ^ k) 1 in
    let none : bit_and (word % 2 ^ k) 0 ≡ 0 = omega (arith, and_le_r (word % 2 ^ k) 0) in
    omega (arith, ap (λ n. bit_and n (2 ^ k)) whole, ap (bit_and (word / 2 ^ k * 2 ^ k + word % 2 ^ k)) flag, block, ap (λ n. n * 2 ^ k) low, none)

same_test : (b p : ℕ) → 0 < p → b < 2 → (b * p == p) ≡ (b == 1)
same_test zero p some small = grind arith
same_test (suc zero) p some small = grind arith
same_test (suc (suc b)) p some small = absurd (omega arith)

pub flag_bit : (word k : ℕ) → (bit_and word (2 ^ k) == 2 ^ k) ≡ bit k word
flag_bit word k =
    rw (and_flag word k) (same_test (word / 2 ^ k % 2) (2 ^ k) (pow_pos k) (omega arith))

-- and the flags of an entry
pub flag_v : (word : ℕ) → (bit_and word 1 == 1) ≡ bit 0 word
flag_v word = flag_bit word 0

pub flag_r : (word : ℕ) → (bit_and word 2 == 2) ≡ bit 1 word
flag_r word = flag_bit word 1

pub flag_w : (word : ℕ) → (bit_and word 4 == 4) ≡ bit 2 word
flag_w word = flag_bit word 2

pub flag_x : (word : ℕ) → (bit_and word 8 == 8) ≡ bit 3 word
flag_x word = flag_bit word 3

pub flag_u : (word : ℕ) → (bit_and word 16 == 16) ≡ bit 4 word
flag_u word = flag_bit word 4

pub flag_a : (word : ℕ) → (bit_and word 64 == 64) ≡ bit 6 word
flag_a word = flag_bit word 6

pub flag_d : (word : ℕ) → (bit_and word 128 == 128) ≡ bit 7 word
flag_d word = flag_bit word 7

pub ruleset flags = (flag_v, flag_r, flag_w, flag_x, flag_u, flag_a, flag_d)
