use Rattle.stage_walk.proofs.Chains.{ends_by_levels}
use Rattle.stage_walk.proofs.laws.walks_end_by_levels.Goals as goal

pub returns : goal.returns
returns c = ends_by_levels
