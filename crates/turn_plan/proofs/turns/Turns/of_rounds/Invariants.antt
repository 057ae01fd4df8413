use Rattle.std.proofs.Common.{◌≡◌}
use Rattle.turn_plan.specs.Turns.{rounds_of}
use Rattle.turn_plan.proofs.turns.Turns.of_rounds.Given as goal

abbrev pub invariant-loop-round : goal.invariant-loop-round
invariant-loop-round l = l.pairs.items ≡ rounds_of l.guests l.quantum l._round
