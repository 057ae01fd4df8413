-- One try of a guest's next step: what it has made, and how tries lead to steps.
use Rattle.std.specs.Prelude.{ℕ, ◌≡◌, ◌≤◌, List, [], ◌∷◌, ◌++◌, Some, None}
use Rattle.arch_defs.specs.declared.cached.Entry.{Entry}
use Rattle.arch_defs.specs.Spaces.{front}
use Rattle.guest_settings.specs.declared.statuses.Status.TheVariants.{Running}
use Rattle.machine_defs.specs.declared.events.Event.{Event}
use Rattle.machine_defs.specs.declared.events.Event.TheVariants as event
use Rattle.machine_defs.specs.Fills.{fill, missing_entry, needed, ready}
use Rattle.machine_defs.specs.Machine.{Machine, WaitsForGood}
use Rattle.machine_defs.specs.Runs.{event_in, left_after, step}
use Rattle.machine_defs.specs.Tries.{try}
use Rattle.guest_exit.specs.declared.hart_exit.Handled.{Handled}
use Rattle.guest_exit.specs.declared.hart_exit.Handled.TheVariants as handled
use Rattle.guest_exit.specs.Steps.{Fills, MakesStep}
use Rattle.guest_turns.specs.declared.trying.Made.{Made}
use Rattle.guest_turns.specs.declared.trying.Made.TheVariants.{Filled, Stepped, Waits}
use Rattle.guest_turns.specs.Hosted.{machine_at}
use Rattle.guest_turns.specs.TurnLists.{updated}

-- a try of a machine has made this: it filled an entry that the step lacks; it made the step, which was this
-- event; or the step waits for good
abbrev pub IsTried : Made → Machine → Machine → Type 0
IsTried Filled before after = Fills before after
IsTried (Stepped event) before after = MakesStep before after × (event_in (try before) ≡ event ∷ [])
IsTried Waits before after = MakesStep before after × (try before ≡ WaitsForGood)

-- so of the machine of one guest, and the others stay
abbrev pub HasTried : Made → ℕ → List Machine → List Machine → Type 0
HasTried Filled g old new =
    (e : Entry) × (missing_entry (machine_at old g) ≡ Some e) × (new ≡ updated g (λ m. fill m e) old)
HasTried (Stepped event) g old new =
    (missing_entry (machine_at old g) ≡ None) × (event_in (try (machine_at old g)) ≡ event ∷ [])
    × (new ≡ updated g left_after old)
HasTried Waits g old new =
    (missing_entry (machine_at old g) ≡ None) × (try (machine_at old g) ≡ WaitsForGood)
    × (new ≡ updated g left_after old)

-- the events that it has made
abbrev pub events_made : Made → List Event
events_made Filled = []
events_made (Stepped event) = event ∷ []
events_made Waits = []

-- what the host's answer is to a try
abbrev pub made_by_host : Handled → Made
made_by_host handled.Stepped = Stepped event.System
made_by_host (handled.Trapped into interrupt) = Stepped (event.Trap into interrupt)
made_by_host handled.Retry = Filled
made_by_host handled.Waits = Waits
made_by_host handled.Stopped = Stepped event.System

-- after a fill the same step is left, and the machine at its last try is the same
pub record IsLeftByFill (m : Machine) (e : Entry) : Type 0 where
  pub step : step (fill m e) ≡ step m
  pub ready : ready (fill m e) ≡ ready m

abbrev pub FillsLeaveStep : Type 0
FillsLeaveStep = (m : Machine) (e : Entry) → needed ≤ m.entry_room → m.platform.status ≡ Running
    → missing_entry m ≡ Some e → IsLeftByFill m e

-- where a step lacks nothing, its try is its last, and makes it
pub record IsLastTry (m : Machine) : Type 0 where
  pub step : step m ≡ left_after m
  pub ready : ready m ≡ m

abbrev pub LastTryIsStep : Type 0
LastTryIsStep = (m : Machine) → m.platform.status ≡ Running → missing_entry m ≡ None → IsLastTry m

-- what a step lacks is filled behind the other entries of the front space
abbrev pub FillsAreLast : Type 0
FillsAreLast = (m : Machine) (e : Entry) → needed ≤ m.entry_room → missing_entry m ≡ Some e
    → (others : List Entry) × (front (fill m e).spaces ≡ others ++ e ∷ [])
