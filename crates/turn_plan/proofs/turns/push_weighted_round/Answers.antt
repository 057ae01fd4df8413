use Rattle.turn_plan.proofs.Rounds.{weighted_turn_more}
use Rattle.turn_plan.proofs.turns.push_weighted_round.Goals as goal

pub loop-guest-preserved : goal.loop-guest-preserved
loop-guest-preserved c =
    rw (c.in_ok-push.ensures.items, c.weighted_turn.ensures) (weighted_turn_more _ _ _ _ _ c.loop-guest.invariant)
