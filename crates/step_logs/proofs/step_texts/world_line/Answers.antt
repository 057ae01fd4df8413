use Rattle.std.proofs.Common.{◌≡◌, rules, true, false}
use Rattle.arch_defs.specs.Traps.{is_virtual}
use Rattle.step_logs.proofs.Told.{entered, left, stayed}
use Rattle.step_logs.proofs.step_texts.world_line.Goals.{then-is_virtual+then-is_virtual-2, else-is_virtual+else-this}
use Rattle.step_logs.proofs.step_texts.world_line.Goals as goal

pub returns-in-true-false : goal.returns-in-true-false
returns-in-true-false c = λ s is same.
    left s c.args.before.now c.args.virt.now is same c.leave_line.result (rw c.head.ensures at c.leave_line.ensures) (search rules) (search rules)

pub returns-in-false-true : goal.returns-in-false-true
returns-in-false-true c = λ s is same.
    entered s c.args.before.now c.args.virt.now is same c.enter_line.result c.enter_line.ensures (search rules) (search rules)

pub returns-in-false-false : goal.returns-in-false-false
returns-in-false-false c = λ s is same. elim c.in-false-false-1.branch [
  | then-is_virtual+then-is_virtual-2 w ↦ stayed s c.args.before.now c.args.virt.now is same true (search rules) (search rules)
  | else-is_virtual+else-this w ↦ stayed s c.args.before.now c.args.virt.now is same false (search rules) (search rules)
]
