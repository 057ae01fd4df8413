-- Fields of words, sign extension, and arithmetic on 64 bits (Unprivileged ISA 20191213, 2.3 and 2.4).
use Rattle.std.specs.Prelude.{ℕ, ◌+◌, ◌-◌, ◌/◌, ◌%◌, ◌^◌, nat_lt, if◌then◌else◌, Bool, true, false, ◌==◌}

-- the n bits of a word from bit `low` on
abbrev pub field : ℕ → ℕ → ℕ → ℕ
field low n word = word / 2 ^ low % 2 ^ n

-- whether bit i of a word is set
abbrev pub bit : ℕ → ℕ → Bool
bit i word = field i 1 word == 1

-- the number that has bit i alone, where it is wanted
abbrev pub bit_number : ℕ → Bool → ℕ
bit_number i true = 2 ^ i
bit_number i false = 0

-- a number of n bits, its sign bit repeated up to bit 63
abbrev pub sign_extend : ℕ → ℕ → ℕ
sign_extend n x = if nat_lt x (2 ^ (n - 1)) then x else x + (2 ^ 64 - 2 ^ n)

-- the sum that 64 bits hold
abbrev pub add64 : ℕ → ℕ → ℕ
add64 x y = (x + y) % 2 ^ 64
