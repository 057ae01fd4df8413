use Rattle.stage_walk.proofs.Leaves.{entries_valid}
use Rattle.stage_walk.proofs.laws.entries_are_valid.Goals as goal

pub returns : goal.returns
returns c = entries_valid
