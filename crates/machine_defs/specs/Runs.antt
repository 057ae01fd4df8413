-- Steps and runs of the lone machine, and the events of a run.
use Rattle.std.specs.Prelude.{ℕ, zero, suc, ◌+◌, List, [], ◌∷◌, ◌++◌, Bool, true, false, not, count_by, sum_by}
use Rattle.machine_defs.specs.declared.events.Event.{Event}
use Rattle.machine_defs.specs.declared.events.Event.TheVariants.{Plain, Trap, System}
use Rattle.guest_settings.specs.declared.statuses.Status.{Status}
use Rattle.guest_settings.specs.declared.statuses.Status.TheVariants as status
use Rattle.machine_defs.specs.Fills.{after_fills, most_fills, ready}
use Rattle.machine_defs.specs.Machine.{Machine, Tried, Ended, WaitsForGood}
use Rattle.machine_defs.specs.Tries.{try}

-- a machine with another status
abbrev pub with_status : Machine → Status → Machine
with_status m s = record m { platform = record m.platform { status = s } }

-- what a try leaves
abbrev pub left_by : Machine → Tried → Machine
left_by m (Ended after event) = after
left_by m WaitsForGood = with_status m status.Waiting

abbrev pub left_after : Machine → Machine
left_after m = left_by m (try m)

-- what at most that many fills, and then one last try, leave
abbrev pub step_within : ℕ → Machine → Machine
step_within n m = left_after (after_fills n m)

-- one step, which a machine that does not go on does not make. Its fills stay, however the last try ends
abbrev pub stepped : Machine → Status → Machine
stepped m status.Running = step_within (most_fills m) m
stepped m status.Waiting = m
stepped m status.Stopped = m

unfoldable pub step : Machine → Machine
step m = stepped m m.platform.status

-- at most k steps
unfoldable pub run : Machine → ℕ → Machine
run m zero = m
run m (suc k) = run (step m) k

-- the event of the step that a try makes, if it makes one
abbrev pub event_in : Tried → List Event
event_in (Ended after event) = event ∷ []
event_in WaitsForGood = []

-- the event of a step; a fill is none
abbrev pub events_by : Machine → Status → List Event
events_by m status.Running = event_in (try (ready m))
events_by m status.Waiting = []
events_by m status.Stopped = []

-- the events of the steps that a run of at most k makes, in order
unfoldable pub events : Machine → ℕ → List Event
events m zero = []
events m (suc k) = events_by m m.platform.status ++ events (step m) k

-- whether a step was plain, and its pc and word where it was
abbrev pub is_plain_step : Event → Bool
is_plain_step (Plain pc word) = true
is_plain_step (Trap level interrupt) = false
is_plain_step System = false

abbrev pub pc_and_word : Event → ℕ
pc_and_word (Plain pc word) = pc + word
pc_and_word (Trap level interrupt) = 0
pc_and_word System = 0

-- whether a step was an instruction, and no interrupt taken
abbrev pub is_instruction : Event → Bool
is_instruction (Plain pc word) = true
is_instruction (Trap level interrupt) = not interrupt
is_instruction System = true

-- how many steps were plain
abbrev pub plain_count : List Event → ℕ
plain_count events = count_by is_plain_step events

-- how many steps were other than an interrupt taken
abbrev pub instruction_count : List Event → ℕ
instruction_count events = count_by is_instruction events

-- the sum of pc and word of the plain steps
abbrev pub trace_of : List Event → ℕ
trace_of events = sum_by pc_and_word events
