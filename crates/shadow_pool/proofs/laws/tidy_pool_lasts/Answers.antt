use Rattle.shadow_pool.proofs.Front.{pool_lasts}
use Rattle.shadow_pool.proofs.laws.tidy_pool_lasts.Goals as goal

pub returns : goal.returns
returns c = pool_lasts
