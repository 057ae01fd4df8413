use Rattle.std.proofs.Common.{◌≡◌}
use Rattle.run_log.specs.Steps.{changed_from}
use Rattle.run_log.proofs.registers.changed_from.Given as goal

abbrev pub invariant-loop-number : goal.invariant-loop-number
invariant-loop-number l = changed_from l.before l.after l.number ≡ changed_from l.before l.after l.from
