-- How many walks there have been.
use Rattle.std.specs.Prelude.{ℕ, ◌+◌, ◌-◌, ◌^◌, min}

-- the count after one more; it stays at the last that it can have
abbrev pub one_more_walk : ℕ → ℕ
one_more_walk walks = min (walks + 1) (2 ^ 64 - 1)
