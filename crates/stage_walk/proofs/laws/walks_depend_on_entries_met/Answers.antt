use Rattle.stage_walk.proofs.Chains.{paths_alike, walks_alike}
use Rattle.stage_walk.proofs.laws.walks_depend_on_entries_met.Goals as goal

pub returns-clause-paths : goal.returns-clause-paths
returns-clause-paths c = paths_alike

pub returns-clause-ends : goal.returns-clause-ends
returns-clause-ends c = walks_alike
