-- The log of a run: the lines of its steps from one up to another, of the kinds that were asked for.
use Rattle.std.specs.Prelude.{ℕ, ◌≡◌, ◌-◌, Bool, true, false, min, List, [], ◌++◌, map, if◌then◌else◌}
use Rattle.std.specs.List.{flat_map, range_with_len}
use Rattle.guest_settings.specs.declared.statuses.Status.{Status}
use Rattle.guest_settings.specs.declared.statuses.Status.TheVariants.{Running, Waiting, Stopped}
use Rattle.log_lines.specs.declared.kinds.Kinds.{Kinds}
use Rattle.log_lines.specs.declared.lines.CountLine.{CountLine}
use Rattle.log_lines.specs.declared.lines.Line.{Line}
use Rattle.log_lines.specs.declared.lines.Line.TheVariants as line
use Rattle.log_lines.specs.Lines.{line_text}
use Rattle.machine_defs.specs.Machine.{Machine}
use Rattle.run_log.specs.Calls.{call_lines}
use Rattle.run_log.specs.Counts.{AreCounts}
use Rattle.run_log.specs.Fences.{fence_lines}
use Rattle.run_log.specs.Fills.{fill_lines}
use Rattle.run_log.specs.Seen.{Seen, seen}
use Rattle.run_log.specs.Stale.{stale_lines}
use Rattle.run_log.specs.Steps.{step_lines}
use Rattle.run_log.specs.Traps.{trap_lines, world_lines}

abbrev pub if_asked : Bool → List Line → List Line
if_asked asked lines = if asked then lines else []

-- the lines of one step, in this order
abbrev pub lines_of_step : Kinds → Machine → ℕ → Seen → List Line
lines_of_step kinds origin from s =
    if_asked kinds.fills (fill_lines s)
    ++ if_asked kinds.stale (stale_lines origin from s)
    ++ if_asked kinds.steps (step_lines s)
    ++ if_asked kinds.calls (call_lines s)
    ++ if_asked kinds.fences (fence_lines s)
    ++ if_asked kinds.traps (trap_lines s)
    ++ if_asked kinds.worlds (world_lines s)

-- a machine that waits for good, or has stopped, makes no step
abbrev pub lines_by : Kinds → Machine → ℕ → Seen → Status → List Line
lines_by kinds origin from s Running = lines_of_step kinds origin from s
lines_by kinds origin from s Waiting = []
lines_by kinds origin from s Stopped = []

unfoldable pub lines_at : Kinds → Machine → ℕ → ℕ → List Line
lines_at kinds origin from n =
    let s = seen origin n in lines_by kinds origin from s s.before.platform.status

unfoldable pub lines_from : Kinds → Machine → ℕ → ℕ → List Line
lines_from kinds origin from steps = flat_map (lines_at kinds origin from) (range_with_len from steps)

abbrev pub text_of_lines : List Line → List ℕ
text_of_lines lines = flat_map line_text lines

-- the counts at its end, where they were asked for
abbrev pub AreCountsIf : Bool → Machine → ℕ → ℕ → List CountLine → Type 0
AreCountsIf true origin from steps counts = AreCounts origin from steps counts
AreCountsIf false origin from steps counts = counts ≡ []

-- the bytes of the log of a number of steps of a machine's run
pub record IsLog (kinds : Kinds) (origin : Machine) (from steps : ℕ) (bytes : List ℕ) : Type 0 where
  pub counts : List CountLine
  pub counted : AreCountsIf kinds.counts origin from steps counts
  pub text :
      bytes ≡ text_of_lines (lines_from kinds origin from steps) ++ text_of_lines (map line.Count counts)

-- how many steps of the run lie from one up to another: none, where it begins behind
-- its end
abbrev pub steps_between : ℕ → ℕ → ℕ → ℕ
steps_between from to last = min to last - from
