-- A step of the log that has been made, and the lines of what it has cached.
use Rattle.std.specs.Prelude.{ℕ, ◌≡◌, ◌+◌, ◌^◌, ◌<◌, ◌≤◌, Bool, List, ◌++◌, Option, Result, Ok, Err, map}
use Rattle.std.specs.Option.{option_to_list}
use Rattle.arch_defs.specs.declared.cached.Entry.{Entry}
use Rattle.guest_settings.specs.declared.statuses.Status.TheVariants.{Running}
use Rattle.log_lines.specs.declared.kinds.Kinds.{Kinds}
use Rattle.log_lines.specs.declared.lines.Line.{Line}
use Rattle.machine_defs.specs.declared.events.Event.{Event}
use Rattle.machine_defs.specs.Freshness.{next_found}
use Rattle.machine_defs.specs.Machine.{Machine}
use Rattle.run_log.specs.Fills.{fill_line, first_translation, second_translation}
use Rattle.run_log.specs.Log.{if_asked}
use Rattle.run_log.specs.Seen.{Seen}
use Rattle.run_log.specs.Stale.{stale_lines}
use Rattle.run_log.specs.Traps.{step_events}
use Rattle.step_logs.specs.Befores.{before_of}
use Rattle.step_logs.specs.StepTexts.{IsOfStep, lines_from_steps}
use Rattle.step_logs.specs.Tries.{IsOneTry, IsTry}
use Rattle.step_logs.specs.declared.befores.Before.{Before}
use Rattle.step_logs.specs.declared.step_texts.Tried.{Tried}

-- the lines of translations of the second stage that it has cached
abbrev pub second_lines : Bool → Seen → List Entry → List Line
second_lines asked s entries = if_asked asked
    (map (λ e. fill_line s (second_translation s.before.platform.virt.csrs.hgatp e)) entries)

-- those of what it has cached of the first stage
abbrev pub first_lines : Bool → Seen → List Line
first_lines asked s = if_asked asked (map (λ e. fill_line s (first_translation e)) (next_found s.before))

-- the lines of a step from a kind on
abbrev pub lines_from_stale : Kinds → Machine → ℕ → Seen → List Line
lines_from_stale kinds origin from s =
    if_asked kinds.stale (stale_lines origin from s) ++ lines_from_steps kinds s

abbrev pub lines_from_first : Kinds → Machine → ℕ → Seen → List Line
lines_from_first kinds origin from s = first_lines kinds.fills s ++ lines_from_stale kinds origin from s

-- a machine goes on, and its count of steps is far from its type's end
pub record CanMakeStep (m : Machine) : Type 0 where
  pub running : m.platform.status ≡ Running
  pub early : m.platform.steps < 2 ^ 61

-- this is kept of a step that can be made, the machine's next
pub record IsBeforeStep (kept : Before) (m : Machine) : Type 0 where
  pub own : kept ≡ before_of kept.number m
  pub goes_on : CanMakeStep m

-- one try has been made, which this tells of, or an entry that the step lacked has been filled
abbrev pub IsTriedOnce : Kinds → Machine → Result Tried Entry → Machine → Type 0
IsTriedOnce kinds m (Ok made) after = IsTry kinds m made.tried × IsOneTry m (Ok made.event) after
IsTriedOnce kinds m (Err e) after = IsOneTry m (Err e) after

-- what is kept is that of a step, which has been made with this last try
pub record IsTriedStep (kinds : Kinds) (s : Seen) (kept : Before) (made : Tried) (m : Machine) : Type 0 where
  pub own : IsOfStep kinds s kept made m
  pub most : m.platform.steps ≤ s.before.platform.steps + 1

-- a step has been made, which was this unless it waits for good, and its lines have been put
pub record HasBeenMade (s : Seen) (event : Option Event) (m : Machine) : Type 0 where
  pub events : step_events s ≡ option_to_list event
  pub after : m ≡ s.after
  pub most : m.platform.steps ≤ s.before.platform.steps + 1
