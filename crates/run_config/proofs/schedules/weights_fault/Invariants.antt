use Rattle.std.proofs.Common.{◌≡◌}
use Rattle.run_config.specs.Turns.{weights_fault}
use Rattle.run_config.proofs.Weighing.{rest_fault}
use Rattle.run_config.proofs.schedules.weights_fault.Given as goal

abbrev pub invariant-loop-guest : goal.invariant-loop-guest
invariant-loop-guest l = weights_fault l.weights l.quantum ≡ rest_fault l.weights l.quantum l.guest
