use Rattle.shadow_space.proofs.Partings.{untouched}
use Rattle.shadow_space.proofs.laws.untouched_are_zeros.Goals as goal

pub returns : goal.returns
returns c = untouched
