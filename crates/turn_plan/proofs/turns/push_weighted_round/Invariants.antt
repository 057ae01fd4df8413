use Rattle.std.proofs.Common.{◌≡◌, ◌++◌, ◌*◌, map}
use Rattle.std.specs.List.{range_with_len, slice_index}
use Rattle.turn_plan.proofs.turns.push_weighted_round.Given as goal

abbrev pub invariant-loop-guest : goal.invariant-loop-guest
invariant-loop-guest l =
    l.pairs.items ≡ l.fn.pairs.items ++ map (λ guest. (guest, slice_index l.weights guest * l.quantum)) (range_with_len 0 l.guest)
