use Rattle.std.specs.Prelude.{ℕ, ◌+◌, ◌-◌, ◌^◌, ◌<◌, ◌≤◌, ◌⊎◌, min, OnErr, Result}

-- a count of faults rose, or stands at its last value
abbrev pub Rose : ℕ → ℕ → Type 0
Rose before after = (before < after) ⊎ (2 ^ 64 - 1 ≤ after)

-- a call that answers a fault is counted, and no call takes from the count
pub record CountsFaults {A E : Type 0} (result : Result A E) (count count' : ℕ) : Type 0 where
  pub cause : OnErr result (Rose count count')
  pub grows : count ≤ count'

-- a count with one more, which stands still at its last value
abbrev pub one_more : ℕ → ℕ
one_more count = min (count + 1) (2 ^ 64 - 1)
