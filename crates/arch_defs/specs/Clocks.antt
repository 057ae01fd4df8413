-- A clock and its timer.
use Rattle.std.specs.Prelude.{ℕ, ◌-◌, ◌^◌, Bool, Option, Some, None, nat_lt, nat_le, if◌then◌else◌}

-- the time, which rises by one with each step, and the timer, the moment from which on the timer interrupt is
-- pending (own; as mtime and mtimecmp, Privileged Architecture 20211203, 3.2.1)
pub record Times : Type 0 where
  pub time : ℕ
  pub timer : ℕ

-- a clock at its start (own)
abbrev pub times_at_start : Times
times_at_start = record { time = 0; timer = 2 ^ 64 - 1 }

-- whether the timer interrupt is pending: while the time is at least the timer
abbrev pub is_due : Times → Bool
is_due times = nat_le times.timer times.time

-- the timer, if it is ahead
abbrev pub next_event : Times → Option ℕ
next_event times = if nat_lt times.time times.timer then Some times.timer else None
