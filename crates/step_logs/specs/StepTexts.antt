-- The lines of a step, by what is kept of the machine before it and of its last try.
use Rattle.std.specs.Prelude.{ℕ, ◌≡◌, ◌⊎◌, Bool, true, false, List, [], ◌∷◌, ◌++◌, Option, Some, None, map}
use Rattle.log_lines.specs.declared.kinds.Kinds.{Kinds}
use Rattle.log_lines.specs.declared.lines.Line.{Line}
use Rattle.log_lines.specs.declared.lines.Line.TheVariants as line
use Rattle.machine_defs.specs.Fills.{ready}
use Rattle.machine_defs.specs.Machine.{Machine}
use Rattle.machine_defs.specs.Runs.{left_after}
use Rattle.std.specs.Option.{option_to_list}
use Rattle.run_log.specs.Calls.{bytes_put, call_lines, inputs_read}
use Rattle.run_log.specs.Fences.{fence_lines}
use Rattle.run_log.specs.Fills.{fill_line, first_translation}
use Rattle.run_log.specs.Log.{if_asked}
use Rattle.run_log.specs.Seen.{Seen, head_of}
use Rattle.run_log.specs.Steps.{step_lines}
use Rattle.run_log.specs.Traps.{step_events, trap_lines, world_lines}
use Rattle.rv64_hart.specs.declared.leaves.Leaves.{Leaves}
use Rattle.step_logs.specs.Befores.{before_of}
use Rattle.step_logs.specs.Tries.{IsTry}
use Rattle.step_logs.specs.declared.befores.Before.{Before}
use Rattle.step_logs.specs.declared.step_texts.Tried.{Tried}

-- a step reads one input at most
abbrev pub IsReadOf : List (ℕ × ℕ) → List (ℕ × ℕ) → Type 0
IsReadOf before after = (after ≡ before) ⊎ ((input : ℕ × ℕ) × (before ≡ input ∷ after))

abbrev pub StepsReadOneInput : Type 0
StepsReadOneInput = (m : Machine)
    → IsReadOf m.platform.console.inputs (left_after m).platform.console.inputs

abbrev pub HasReadOne : Seen → Type 0
HasReadOne s = IsReadOf s.before.platform.console.inputs s.after.platform.console.inputs

-- what has been kept is that of a step
pub record IsOfStep (kinds : Kinds) (s : Seen) (kept : Before) (made : Tried) (m : Machine) : Type 0 where
  pub before : kept ≡ before_of s.number s.before
  pub last : s.tried ≡ ready s.before
  pub tried : IsTry kinds s.tried made.tried
  pub events : step_events s ≡ option_to_list made.event
  pub after : m ≡ s.after
  pub reads : HasReadOne s

-- its lines from a kind on
abbrev pub lines_from_traps : Kinds → Seen → List Line
lines_from_traps kinds s = if_asked kinds.traps (trap_lines s) ++ if_asked kinds.worlds (world_lines s)

abbrev pub lines_from_fences : Kinds → Seen → List Line
lines_from_fences kinds s = if_asked kinds.fences (fence_lines s) ++ lines_from_traps kinds s

abbrev pub lines_from_calls : Kinds → Seen → List Line
lines_from_calls kinds s = if_asked kinds.calls (call_lines s) ++ lines_from_fences kinds s

abbrev pub lines_from_steps : Kinds → Seen → List Line
lines_from_steps kinds s = if_asked kinds.steps (step_lines s) ++ lines_from_calls kinds s

-- the lines of the bytes of the console
abbrev pub console_lines : Seen → List Line
console_lines s = map (λ byte. line.Put (head_of s) byte) (bytes_put s.before s.after)
    ++ map (λ input. line.Got (head_of s) input.1) (inputs_read s.before s.after)

-- the lines of what a try has found of the first stage
abbrev pub found_lines : Seen → Leaves → List Line
found_lines s found =
    map (λ e. fill_line s (first_translation e)) (option_to_list found.at_pc)
    ++ map (λ e. fill_line s (first_translation e)) (option_to_list found.of_data)
