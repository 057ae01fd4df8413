-- How many tries the steps of a machine take, one by one: each try fills an entry or ends a step.
use Rattle.std.specs.Prelude.{ℕ, zero, suc, ◌≡◌, ◌+◌, ◌-◌, ◌*◌, ◌<◌, ◌≤◌, ◌++◌, Some, None}
use Rattle.arch_defs.specs.declared.cached.Entry.{Entry}
use Rattle.guest_settings.specs.declared.statuses.Status.TheVariants.{Running}
use Rattle.machine_defs.specs.Fills.{fill, fills, missing_entry, most_fills, most_tries, needed}
use Rattle.machine_defs.specs.Machine.{Machine}
use Rattle.machine_defs.specs.Runs.{event_in, events, left_after, run, step}
use Rattle.machine_defs.specs.Tries.{try}

-- at most how many tries k steps of a machine still take: the fills of the next step and its last try, and
-- for each later step as many fills as a step may make, and its last try
abbrev pub budget : Machine → ℕ → ℕ
budget m zero = 0
budget m (suc k) = k * (most_fills m + 1) + (fills (most_fills m) m + 1)

-- what one try leaves of a run of k steps: that many steps of the next machine are the same run, and take
-- fewer tries
pub record Goes (m : Machine) (k : ℕ) (next : Machine) (left : ℕ) : Type 0 where
  pub ran : run next left ≡ run m k
  pub fewer : budget next left + 1 ≤ budget m k
  pub room : next.entry_room ≡ m.entry_room

-- a try that lacks an entry leaves all steps, after the fill
abbrev pub FillGoes : Type 0
FillGoes = (m : Machine) (e : Entry) (k : ℕ) → needed ≤ m.entry_room → 0 < k → m.platform.status ≡ Running
    → missing_entry m ≡ Some e → Goes m k (fill m e) k

-- a try that lacks none ends a step
abbrev pub TryGoes : Type 0
TryGoes = (m : Machine) (k : ℕ) → needed ≤ m.entry_room → 0 < k → m.platform.status ≡ Running
    → missing_entry m ≡ None → Goes m k (left_after m) (k - 1)

-- the step of a machine that lacks none is its try
abbrev pub ReadyStepIsTry : Type 0
ReadyStepIsTry = (m : Machine) → m.platform.status ≡ Running → missing_entry m ≡ None → step m ≡ left_after m

-- that many steps that are made, and before which none is missing, leave as many steps less
abbrev pub NeedNoFill : ℕ → Machine → Type 0
NeedNoFill n m = (i : ℕ) → i < n → ((run m i).platform.status ≡ Running) × (missing_entry (run m i) ≡ None)

abbrev pub ReadyStepsGo : Type 0
ReadyStepsGo = (m : Machine) (n k : ℕ) → needed ≤ m.entry_room → 0 < n → n ≤ k → NeedNoFill n m
    → Goes m k (run m n) (k - n)

-- k steps take at most k times the most tries of a step
abbrev pub BudgetIsSmall : Type 0
BudgetIsSmall = (m : Machine) (k : ℕ) → budget m k ≤ k * most_tries m.entry_room

-- a fill is not an event, and a try that lacks nothing is one, if it is a step
abbrev pub FillIsNoEvent : Type 0
FillIsNoEvent = (m : Machine) (e : Entry) (k : ℕ) → needed ≤ m.entry_room → m.platform.status ≡ Running
    → missing_entry m ≡ Some e → events (fill m e) k ≡ events m k

abbrev pub TryIsEvent : Type 0
TryIsEvent = (m : Machine) (k : ℕ) → 0 < k → m.platform.status ≡ Running → missing_entry m ≡ None
    → events m k ≡ event_in (try m) ++ events (left_after m) (k - 1)
