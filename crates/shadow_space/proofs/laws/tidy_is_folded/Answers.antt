use Rattle.shadow_space.proofs.Tidying.{folded}
use Rattle.shadow_space.proofs.laws.tidy_is_folded.Goals as goal

pub returns : goal.returns
returns c = folded
