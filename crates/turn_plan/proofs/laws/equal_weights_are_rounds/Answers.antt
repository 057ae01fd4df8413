use Rattle.turn_plan.proofs.Facts.{equal_weights}
use Rattle.turn_plan.proofs.laws.equal_weights_are_rounds.Goals as goal

pub returns : goal.returns
returns c = equal_weights
