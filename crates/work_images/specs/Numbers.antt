-- The numbers of a generator that goes from one to the next by a product and a sum modulo 2 ^ 31 (its two
-- constants are those of the example of `rand` in ISO C).
use Rattle.std.specs.Prelude.{ℕ, zero, suc, ◌+◌, ◌*◌, ◌/◌, ◌%◌, ◌^◌}

-- the number after a number
abbrev pub following : ℕ → ℕ
following x = (x * 1103515245 + 12345) % 2 ^ 31

-- the number that stands that many after a number
unfoldable pub number : ℕ → ℕ → ℕ
number x zero = x
number x (suc count) = following (number x count)

-- what a number is for a draw of one of n: its high bits modulo n
abbrev pub drawn : ℕ → ℕ → ℕ
drawn n x = x / 65536 % n

-- the draws from a number on, the first one of index 0: each goes to the next number first
abbrev pub draw : ℕ → ℕ → ℕ → ℕ
draw x index n = drawn n (number x (index + 1))
