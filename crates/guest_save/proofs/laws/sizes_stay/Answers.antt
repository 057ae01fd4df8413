use Rattle.guest_save.proofs.KeptSizes.{sizes_stay}
use Rattle.guest_save.proofs.laws.sizes_stay.Goals as goal

pub returns : goal.returns
returns c = sizes_stay
