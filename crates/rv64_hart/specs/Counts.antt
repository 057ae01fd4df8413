-- What a tally tells.
use Rattle.std.specs.Prelude.{ℕ, ◌≡◌, ◌+◌, ◌%◌, ◌^◌}

-- how often the hart was entered, how many steps it made, and the sum of pc and word of the plain ones
pub record Counts : Type 0 where
  pub entries : ℕ
  pub taken : ℕ
  pub trace : ℕ

-- a trace has been raised, modulo 2^64, by exactly this sum
abbrev pub IsRaisedBy : ℕ → ℕ → ℕ → Type 0
IsRaisedBy sum old new = new % 2 ^ 64 ≡ (old + sum) % 2 ^ 64

-- only the trace may be another
abbrev pub OnlyTrace : Counts → Counts → Type 0
OnlyTrace old new = (new.entries ≡ old.entries) × (new.taken ≡ old.taken)

-- this many steps have been counted, in the entry that was
pub record CountsSteps (taken : ℕ) (old new : Counts) : Type 0 where
  pub entries : new.entries ≡ old.entries
  pub steps : new.taken ≡ old.taken + taken
