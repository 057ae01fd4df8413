use Rattle.std.proofs.Common.{◌≡◌, ◌++◌}
use Rattle.turn_plan.specs.Turns.{round_of}
use Rattle.turn_plan.proofs.turns.push_round.Given as goal

abbrev pub invariant-loop-guest : goal.invariant-loop-guest
invariant-loop-guest l = l.pairs.items ≡ l.fn.pairs.items ++ round_of l.guest l.quantum
