-- Immediates that fit, read back from their parts.
use Rattle.std.proofs.Common.{◌≡◌, ℕ, ◌+◌, ◌-◌, ◌*◌, ◌%◌, ◌^◌, ◌<◌, ◌≤◌, ◌⊎◌, true, arith}
use Rattle.std.specs.Prelude.{nat_lt, nat_le, ◌&&◌, ◌||◌, ◌==◌, if◌then◌else◌}
use Rattle.std.proofs.lemmas.Bool.{and_parts, eqb-true}
use Rattle.std.proofs.lemmas.Bool.Decides.{nat_tests}
use Rattle.arch_defs.specs.Bits.{field, sign_extend}
use Rattle.op_defs.specs.Fields.{i_immediate, s_immediate, b_immediate, u_immediate, j_immediate}
use Rattle.rv64_asm.specs.Fitting.{in_range, in_steps}

-- below the half of the positive numbers, or from the half of the negative ones on
ranges : (x low high top : ℕ) → (nat_lt x low || nat_le high x && nat_lt x top) ≡ true → (x < low) ⊎ ((high ≤ x) × (x < top))
ranges x low high top h = grind (arith, nat_tests)

steps : (x low high top step : ℕ) → ((nat_lt x low || nat_le high x && nat_lt x top) && (x % step == 0)) ≡ true
    → ((x < low) ⊎ ((high ≤ x) × (x < top))) × (x % step ≡ 0)
steps x low high top step h = grind (arith, nat_tests)

-- what sign extension leaves of the low bits of a number in range
extends : (x y low add : ℕ) → (y < low) × (x ≡ y) ⊎ (low ≤ y) × (x ≡ y + add) → (if nat_lt y low then y else y + add) ≡ x
extends x y low add h = grind (arith, nat_tests)

extended_12 : (x y : ℕ) → in_range 12 x ≡ true → y ≡ x % 2 ^ 12 → sign_extend 12 y ≡ x
extended_12 x y h e = extends x y (2 ^ 11) (2 ^ 64 - 2 ^ 12) (let r = ranges x (2 ^ 11) (2 ^ 64 - 2 ^ 11) (2 ^ 64) h in grind arith)

extended_13 : (x y : ℕ) → in_range 13 x ≡ true → y ≡ x % 2 ^ 13 → sign_extend 13 y ≡ x
extended_13 x y h e = extends x y (2 ^ 12) (2 ^ 64 - 2 ^ 13) (let r = ranges x (2 ^ 12) (2 ^ 64 - 2 ^ 12) (2 ^ 64) h in grind arith)

extended_21 : (x y : ℕ) → in_range 21 x ≡ true → y ≡ x % 2 ^ 21 → sign_extend 21 y ≡ x
extended_21 x y h e = extends x y (2 ^ 20) (2 ^ 64 - 2 ^ 21) (let r = ranges x (2 ^ 20) (2 ^ 64 - 2 ^ 20) (2 ^ 64) h in grind arith)

extended_32 : (x y : ℕ) → in_range 32 x ≡ true → y ≡ x % 2 ^ 32 → sign_extend 32 y ≡ x
extended_32 x y h e = extends x y (2 ^ 31) (2 ^ 64 - 2 ^ 32) (let r = ranges x (2 ^ 31) (2 ^ 64 - 2 ^ 31) (2 ^ 64) h in grind arith)

pub i_back : (w x : ℕ) → field 20 12 w ≡ x % 2 ^ 12 → in_range 12 x ≡ true → i_immediate w ≡ x
i_back w x e h = extended_12 x (field 20 12 w) h e

pub s_back : (w x : ℕ) → field 25 7 w * 2 ^ 5 + field 7 5 w ≡ x % 2 ^ 12 → in_range 12 x ≡ true → s_immediate w ≡ x
s_back w x e h = extended_12 x (field 25 7 w * 2 ^ 5 + field 7 5 w) h e

pub b_back : (w x : ℕ)
    → (x % 2 ≡ 0 → field 31 1 w * 2 ^ 12 + field 7 1 w * 2 ^ 11 + field 25 6 w * 2 ^ 5 + field 8 4 w * 2 ≡ x % 2 ^ 13)
    → in_steps 13 2 x ≡ true → b_immediate w ≡ x
b_back w x e h = let k = and_parts (in_range 13 x) (x % 2 == 0) h in extended_13 x _ k.0 (e (eqb-true (x % 2) 0 k.1))

pub u_back : (w x : ℕ) → (x % 4096 ≡ 0 → field 12 20 w * 2 ^ 12 ≡ x % 2 ^ 32) → in_steps 32 4096 x ≡ true → u_immediate w ≡ x
u_back w x e h = let k = and_parts (in_range 32 x) (x % 4096 == 0) h in extended_32 x _ k.0 (e (eqb-true (x % 4096) 0 k.1))

pub j_back : (w x : ℕ)
    → (x % 2 ≡ 0 → field 31 1 w * 2 ^ 20 + field 12 8 w * 2 ^ 12 + field 20 1 w * 2 ^ 11 + field 21 10 w * 2 ≡ x % 2 ^ 21)
    → in_steps 21 2 x ≡ true → j_immediate w ≡ x
j_back w x e h = let k = and_parts (in_range 21 x) (x % 2 == 0) h in extended_21 x _ k.0 (e (eqb-true (x % 2) 0 k.1))

-- a number of 12 bits, unsigned
pub i_number : (w x : ℕ) → field 20 12 w ≡ x % 2 ^ 12 → x < 2 ^ 12 → field 20 12 w ≡ x
i_number w x e h = omega arith
