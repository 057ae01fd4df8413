-- Tries of a machine's next step, and what the log needs of the last one.
use Rattle.std.specs.Prelude.{ℕ, ◌≡◌, ◌||◌, Bool, true, false, List, [], ◌∷◌, ◌++◌, Option, Some, None, Result, Ok, Err, length, option_map}
use Rattle.arch_defs.specs.declared.cached.Entry.{Entry}
use Rattle.log_lines.specs.declared.kinds.Kinds.{Kinds}
use Rattle.machine_defs.specs.declared.events.Event.{Event}
use Rattle.machine_defs.specs.Fills.{fill, missing_entry}
use Rattle.machine_defs.specs.Machine.{Machine, WaitsForGood}
use Rattle.machine_defs.specs.Runs.{event_in, left_after}
use Rattle.machine_defs.specs.Tries.{found_by_try, stages_of, try, with_found}
use Rattle.rv64_hart.specs.Leaves.{leaves_list}
use Rattle.run_log.specs.Fences.{first_count, second_count}
use Rattle.run_log.specs.Seen.{step_outcome}
use Rattle.run_log.specs.Steps.{MadeAccess, access_made, is_writing, memory_read, step_word}
use Rattle.step_lines.specs.Acts.{act_in}
use Rattle.step_lines.specs.MadeAccesses.{made_seen}
use Rattle.step_lines.specs.declared.accesses.MadeAccess as made
use Rattle.step_lines.specs.declared.acts.Act.{Act}
use Rattle.step_lines.specs.declared.acts.Act.TheVariants.{Fences}
use Rattle.step_lines.specs.declared.fences.Held.{Held}
use Rattle.step_logs.specs.declared.tries.Data.{Data}
use Rattle.step_logs.specs.declared.tries.Try.{Try}

-- what one try has made: the step, which was this event; or the step waits for good; or an entry that the
-- step lacked has been filled
abbrev pub IsOneTry : Machine → Result (Option Event) Entry → Machine → Type 0
IsOneTry m (Ok (Some event)) after =
    (missing_entry m ≡ None) × (event_in (try m) ≡ event ∷ []) × (after ≡ left_after m)
IsOneTry m (Ok None) after = (missing_entry m ≡ None) × (try m ≡ WaitsForGood)
    × (after ≡ left_after m)
IsOneTry m (Err e) after = (missing_entry m ≡ Some e) × (after ≡ fill m e)

-- how many translations of each stage are cached
abbrev pub held_of : Machine → Held
held_of m = record { first = first_count m; second = second_count m }

-- before a fence drops some: what its own fetch found is cached then
abbrev pub IsHeldBeforeFence : Act → Machine → Held → Type 0
IsHeldBeforeFence (Fences fence named) m held = held ≡ held_of (with_found (stages_of m) m)
IsHeldBeforeFence _ m held = Unit {0}

-- whether the log needs the word of a step
abbrev pub needs_word : Kinds → Bool
needs_word kinds = kinds.steps || kinds.calls || kinds.fences

abbrev pub If : Bool → Type 0 → Type 0
If true P = P
If _ P = Unit {0}

abbrev pub writes_by : Machine → Option MadeAccess → Bool
writes_by m (Some made) = is_writing m made made.access.purpose
writes_by m None = false

-- the access to data that a machine's next instruction makes
pub record IsData (m : Machine) (own : Data) : Type 0 where
  pub made : option_map made_seen own.made ≡ access_made m
  pub read : own.read ≡ memory_read m (access_made m)
  pub writes : own.writes ≡ writes_by m (access_made m)

-- a try, as far as these kinds need it
pub record IsTry (kinds : Kinds) (m : Machine) (tried : Try) : Type 0 where
  pub word : If (needs_word kinds) (tried.word ≡ step_word m)
  pub act : If (needs_word kinds) (tried.act ≡ act_in (step_outcome m))
  pub found : If kinds.fills (leaves_list tried.found ≡ found_by_try (stages_of m) m)
  pub own : If kinds.steps (IsData m tried.own)
  pub held : If (needs_word kinds) (IsHeldBeforeFence tried.act m tried.held)
