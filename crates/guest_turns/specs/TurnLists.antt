-- Turns of guests, one after another, as steps of their lone machines.
use Rattle.std.specs.Prelude.{ℕ, zero, suc, ◌≡◌, ◌+◌, ◌*◌, ◌<◌, ◌≤◌, ◌==◌, List, [], ◌∷◌, ◌++◌, length, sum_by, if◌then◌else◌}
use Rattle.machine_defs.specs.declared.events.Event.{Event}
use Rattle.machine_defs.specs.Fills.{most_tries}
use Rattle.machine_defs.specs.Machine.{Machine}
use Rattle.machine_defs.specs.Runs.{events, run}
use Rattle.guest_turns.specs.Hosted.{machine_at}

-- the list with the element at an index changed
abbrev pub updated : {X : Type 0} → ℕ → (X → X) → List X → List X
updated i change [] = []
updated zero change (x ∷ xs) = change x ∷ xs
updated (suc i) change (x ∷ xs) = x ∷ updated i change xs

-- the machines after a turn of at most k steps of the guest g
abbrev pub with_turn : ℕ → ℕ → List Machine → List Machine
with_turn g k machines = updated g (λ m. run m k) machines

-- the machines after turns in order, each of a guest and a number of steps
abbrev pub with_turns : List (ℕ × ℕ) → List Machine → List Machine
with_turns [] machines = machines
with_turns ((g, k) ∷ turns) machines = with_turns turns (with_turn g k machines)

-- the steps of a guest's own turns
abbrev pub own_steps : ℕ → List (ℕ × ℕ) → ℕ
own_steps g turns = sum_by (λ turn. if turn.0 == g then turn.1 else 0) turns

-- each machine has run for the steps of its own turns
abbrev pub RunsItsOwnTurns : Type 0
RunsItsOwnTurns = (turns : List (ℕ × ℕ)) (machines : List Machine) (g : ℕ) → g < length machines
    → machine_at (with_turns turns machines) g ≡ run (machine_at machines g) (own_steps g turns)

-- there are as many machines as before
abbrev pub TurnsKeepCount : Type 0
TurnsKeepCount = (turns : List (ℕ × ℕ)) (machines : List Machine)
    → length (with_turns turns machines) ≡ length machines

-- so the order of turns of different guests has no effect, nor how a guest's steps are shared out among its
-- turns
abbrev pub OrderHasNoEffect : Type 0
OrderHasNoEffect = (turns other : List (ℕ × ℕ)) (machines : List Machine)
    → ((g : ℕ) → own_steps g turns ≡ own_steps g other)
    → with_turns turns machines ≡ with_turns other machines

-- the events of turns, in order
abbrev pub turn_events : List (ℕ × ℕ) → List Machine → List Event
turn_events [] machines = []
turn_events ((g, k) ∷ turns) machines =
    events (machine_at machines g) k ++ turn_events turns (with_turn g k machines)

-- the events of the machines' own runs, one machine after another; the first of them has this number
abbrev pub events_from : ℕ → List (ℕ × ℕ) → List Machine → List Event
events_from first turns [] = []
events_from first turns (m ∷ machines) =
    events m (own_steps first turns) ++ events_from (first + 1) turns machines

abbrev pub own_events : List (ℕ × ℕ) → List Machine → List Event
own_events turns machines = events_from 0 turns machines

-- whatever is counted of events, turns count for as much as the machines' own runs
abbrev pub TurnsCountAlike : Type 0
TurnsCountAlike = (count : Event → ℕ) (turns : List (ℕ × ℕ)) (machines : List Machine)
    → sum_by count (turn_events turns machines) ≡ sum_by count (own_events turns machines)

-- at most how many entries of the hart a turn of k steps takes, where a space has room for that many cached
-- translations: each try of a step is one
abbrev pub turn_entries : ℕ → ℕ → ℕ
turn_entries room k = (k + 1) * most_tries room

-- and turns of guests with such machines
abbrev pub entries_for : List Machine → List (ℕ × ℕ) → ℕ
entries_for machines turns =
    sum_by (λ turn. turn_entries (machine_at machines turn.0).entry_room turn.1) turns

-- a run of k makes at most k steps
abbrev pub RunsMakeAtMost : Type 0
RunsMakeAtMost = (m : Machine) (k : ℕ) → (run m k).platform.steps ≤ m.platform.steps + k
