use Rattle.std.proofs.Common.{◌≡◌}
use Rattle.turn_plan.specs.Turns.{weighted_rounds}
use Rattle.turn_plan.proofs.turns.Turns.of_weights.Given as goal

abbrev pub invariant-loop-round : goal.invariant-loop-round
invariant-loop-round l = l.pairs.items ≡ weighted_rounds l.weights l.quantum l._round
