-- A step of a run, as the log sees it: by the machine before it, at its last try, and after it.
use Rattle.std.specs.Prelude.{ℕ, Option, Some, None}
use Rattle.arch_defs.specs.Interrupts.{due}
use Rattle.log_lines.specs.declared.heads.Head.{Head}
use Rattle.machine_defs.specs.Fills.{ready}
use Rattle.machine_defs.specs.Machine.{Machine}
use Rattle.machine_defs.specs.Outcomes.{Outcome}
use Rattle.machine_defs.specs.Runs.{run, step}
use Rattle.machine_defs.specs.Tries.{outcome_under, stages_of}

-- the step of this number, from 0 on, with the machine that has made its fills
pub record Seen : Type 0 where
  pub number : ℕ
  pub before : Machine
  pub tried : Machine
  pub after : Machine

abbrev pub seen_from : ℕ → Machine → Seen
seen_from n m = record { number = n; before = m; tried = ready m; after = step m }

abbrev pub seen : Machine → ℕ → Seen
seen origin n = seen_from n (run origin n)

-- its line's head, with the mode and pc of a machine, and of the one before it
abbrev pub head_with : ℕ → Machine → Head
head_with n m = record { step = n; mode = m.platform.virt.mode; pc = m.platform.virt.regs.pc }

abbrev pub head_of : Seen → Head
head_of s = head_with s.number s.before

-- how the instruction of a machine ends, unless an interrupt is due
abbrev pub step_outcome_with : Machine → Option ℕ → Option Outcome
step_outcome_with m (Some code) = None
step_outcome_with m None = Some (outcome_under (stages_of m) m)

unfoldable pub step_outcome : Machine → Option Outcome
step_outcome m = step_outcome_with m (due m.platform.virt.csrs m.platform.virt.mode)
