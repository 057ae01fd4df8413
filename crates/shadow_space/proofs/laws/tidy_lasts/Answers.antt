use Rattle.shadow_space.proofs.Tidying.{lasts}
use Rattle.shadow_space.proofs.laws.tidy_lasts.Goals as goal

pub returns : goal.returns
returns c = lasts
