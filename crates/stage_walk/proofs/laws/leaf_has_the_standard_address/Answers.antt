use Rattle.stage_walk.proofs.Leaves.{leaf_address_law}
use Rattle.stage_walk.proofs.laws.leaf_has_the_standard_address.Goals as goal

pub returns : goal.returns
returns c = leaf_address_law
