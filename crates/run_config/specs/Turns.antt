-- The two forms in which a configuration says its turns.
use Rattle.std.specs.Prelude.{⊤, ℕ, ◌*◌, ◌-◌, ◌^◌, ◌≤◌, nat_le, ◌&&◌, List, length, map, Option, Some, None, is_none, is_some, if◌then◌else◌}
use Rattle.std.specs.List.{enumerate_from}
use Rattle.toml.specs.Data.{Members, as_array, as_integer}
use Rattle.turn_plan.specs.Turns.{weighted_rounds}
use Rattle.run_config.specs.declared.faults.ConfigFault.{ConfigFault}
use Rattle.run_config.specs.Faults as fault
use Rattle.run_config.specs.declared.keys.ConfigKey.TheVariants as key
use Rattle.run_config.specs.declared.schedules.Schedule.{Schedule}
use Rattle.run_config.specs.declared.schedules.Schedule.TheVariants.{Listed, Rounds}
use Rattle.run_config.specs.Tests.{unless, first_fault}
use Rattle.run_config.specs.Values.{◌>>=◌, passes_if, value_at, natural, number_within, pairs_within}

-- a list of at most 2^20 pairs of a guest's number and at most 2^32 steps (own)
unfoldable pub listed_turns : ℕ → Members → Option Schedule
listed_turns guests document = do
  _ ← passes_if (is_none (value_at key.Quantum document) && is_none (value_at key.Rounds document))
  value ← value_at key.Turns document
  items ← as_array value
  turns ← pairs_within (guests - 1) (2 ^ 32) items
  _ ← passes_if (nat_le (length turns) (2 ^ 20))
  Some (Listed turns)

-- the steps of a turn of weight 1, at most 2^32, and how many rounds there are, of at most 2^20 turns in all
-- (own)
unfoldable pub quantum_and_rounds : ℕ → Members → Option Schedule
quantum_and_rounds guests document = do
  quantum_value ← value_at key.Quantum document
  quantum ← number_within 0 (2 ^ 32) quantum_value
  rounds_value ← value_at key.Rounds document
  rounds_integer ← as_integer rounds_value
  rounds ← natural rounds_integer
  _ ← passes_if (nat_le (guests * rounds) (2 ^ 20))
  Some (Rounds quantum rounds)

-- how the turns of that many guests are said: in exactly one of the two forms
unfoldable pub schedule_at : ℕ → Members → Option Schedule
schedule_at guests document =
    if is_some (value_at key.Turns document)
    then listed_turns guests document
    else quantum_and_rounds guests document

-- what holds of the schedule of that many guests
abbrev pub IsFor : ℕ → Schedule → Type 0
IsFor guests (Listed turns) = ⊤
IsFor guests (Rounds quantum rounds) = (quantum ≤ 2 ^ 32) × (guests * rounds ≤ 2 ^ 20)

-- the turns of guests with these weights, which have no effect on listed ones
abbrev pub turns_of : List ℕ → Schedule → List (ℕ × ℕ)
turns_of weights (Listed turns) = turns
turns_of weights (Rounds quantum rounds) = weighted_rounds weights quantum rounds

-- a turn of a guest, by its number and its weight, must have at most 2^32 steps (own)
abbrev pub too_long_turn : ℕ → ℕ × ℕ → Option ConfigFault
too_long_turn quantum guest =
    unless (nat_le (guest.1 * quantum) (2 ^ 32)) (fault.weight guest.0 (guest.1 * quantum))

-- the fault of the first guest whose turns have more, however many rounds there are
unfoldable pub weights_fault : List ℕ → ℕ → Option ConfigFault
weights_fault weights quantum = first_fault (map (too_long_turn quantum) (enumerate_from 0 weights))

abbrev pub schedule_fault : List ℕ → Schedule → Option ConfigFault
schedule_fault weights (Listed turns) = None
schedule_fault weights (Rounds quantum rounds) = weights_fault weights quantum
