-- Bits of a number under a mask.
use Rattle.std.specs.Prelude.{bit_and, Bool, true, false}
use Rattle.std.proofs.Common.{◌≡◌, ℕ, zero, suc, ◌+◌, ◌-◌, ◌*◌, ◌/◌, ◌%◌, ◌^◌, ◌<◌, ◌≤◌, refl, ap, arith}
use Rattle.std.proofs.lemmas.Nat.{and_block, and-not, and_comm, and_le_r, pow-add, shr-shr}
use Rattle.arch_defs.specs.Bits.{bit, bit_number}
use Rattle.csr_file.specs.Laws.{merged}

-- the bits of a number, from bit i on, at which a mask has ones
unfoldable pub masked : ℕ → ℕ → ℕ → ℕ → ℕ
masked zero i mask v = 0
masked (suc n) i mask v = mask % 2 * (v / 2 ^ i % 2) * 2 ^ i + masked n (i + 1) (mask / 2) v

-- a flag that is taken from a number shows that bit
pub flag : (i v : ℕ) → bit_number i (bit i v) ≡ v / 2 ^ i % 2 * 2 ^ i
flag i v = grind arith

-- a flag is at most its bit
pub flag_most : (i : ℕ) (b : Bool) → bit_number i b ≤ 2 ^ i
flag_most i true = omega arith
flag_most i false = omega arith

-- two numbers that differ in their bits under a mask alone
pub replaced : (mask fixed before after v : ℕ) → mask + fixed < 2 ^ 64 → bit_and v mask + fixed ≡ after → bit_and before mask + fixed ≡ before
    → after ≡ merged mask before v
replaced mask fixed before after v m t f =
    let small = and_le_r before mask in
    let whole = and-not 64 mask before (omega (arith, m)) (omega (arith, m, f, small)) in
    let swapped = and_comm mask before in
    let swapped_rest = and_comm before (2 ^ 64 - 1 - mask) in omega (arith, t, f, whole, swapped, swapped_rest)

half_below : (n mask : ℕ) → mask < 2 ^ suc n → mask / 2 < 2 ^ n
half_below n mask h = omega (arith, h)

one_bit : (a b : ℕ) → a < 2 → b < 2 → bit_and a b ≡ b * a
one_bit zero b h k = omega arith
one_bit (suc zero) zero h k = refl
one_bit (suc zero) (suc zero) h k = refl
one_bit (suc zero) (suc (suc b)) h k = absurd (omega arith)
one_bit (suc (suc a)) b h k = absurd (omega arith)

-- a number and a mask by their lowest bits
lowest : (v mask : ℕ) → bit_and v mask ≡ bit_and (v / 2) (mask / 2) * 2 + mask % 2 * (v % 2)
lowest v mask =
    let block = and_block 1 (v / 2) (mask / 2) (v % 2) (mask % 2) (omega arith) (omega arith) in
    let last = one_bit (v % 2) (mask % 2) (omega arith) (omega arith) in
    let left : v / 2 * 2 ^ 1 + v % 2 ≡ v = omega arith in
    let right : mask / 2 * 2 ^ 1 + mask % 2 ≡ mask = omega arith in
    omega (arith, block, last, ap (λ x. bit_and x mask) left, ap (bit_and (v / 2 * 2 ^ 1 + v % 2)) right)

regrouped : (b m q p : ℕ) → (b * 2 + m * q) * p ≡ m * q * p + b * (p * 2)
regrouped b m q p = omega arith

one_more : (i mask v rest : ℕ) → bit_and (v / 2 ^ (i + 1)) (mask / 2) * 2 ^ (i + 1) ≡ rest
    → bit_and (v / 2 ^ i) mask * 2 ^ i ≡ mask % 2 * (v / 2 ^ i % 2) * 2 ^ i + rest
one_more i mask v rest e =
    let low = ap (λ x. x * 2 ^ i) (lowest (v / 2 ^ i) mask) in
    let apart = regrouped (bit_and (v / 2 ^ i / 2) (mask / 2)) (mask % 2) (v / 2 ^ i % 2) (2 ^ i) in
    let deeper = ap (λ x. bit_and x (mask / 2) * (2 ^ i * 2)) (shr-shr v i 1) in
    let double : 2 ^ i * 2 ≡ 2 ^ (i + 1) = omega (arith, pow-add 2 i 1) in
    let last = ap (λ x. bit_and (v / 2 ^ (i + 1)) (mask / 2) * x) double in omega (arith, low, apart, deeper, last, e)

none_under : (i mask v : ℕ) → mask ≡ 0 → bit_and (v / 2 ^ i) mask * 2 ^ i ≡ 0
none_under i mask v e = rw (e, and_comm (v / 2 ^ i) 0) (omega arith)

-- the bits under a mask of n bits, one by one
pub bits_under : (n i mask v : ℕ) → mask < 2 ^ n → bit_and (v / 2 ^ i) mask * 2 ^ i ≡ masked n i mask v
unfolding masked
bits_under zero i mask v h = none_under i mask v (omega arith)
bits_under (suc n) i mask v h = one_more i mask v (masked n (i + 1) (mask / 2) v) (bits_under n (i + 1) (mask / 2) v (half_below n mask h))

-- the bits of a number under a mask of n bits
pub under : (n mask v : ℕ) → mask < 2 ^ n → bit_and v mask ≡ masked n 0 mask v
under n mask v h = let whole : v / 2 ^ 0 ≡ v = omega arith in omega (arith, bits_under n 0 mask v h, ap (λ x. bit_and x mask) whole)

-- a value under a mask, by the bits from bit k on and those below
pub in_blocks : (k v high low : ℕ) → low < 2 ^ k → bit_and v (high * 2 ^ k + low) ≡ bit_and (v / 2 ^ k) high * 2 ^ k + bit_and (v % 2 ^ k) low
in_blocks k v high low h =
    let rest : v % 2 ^ k < 2 ^ k = omega (arith, h) in
    let whole : v / 2 ^ k * 2 ^ k + v % 2 ^ k ≡ v = omega arith in
    omega (arith, and_block k (v / 2 ^ k) high (v % 2 ^ k) low rest h, ap (λ x. bit_and x (high * 2 ^ k + low)) whole)
