use Rattle.fill_laws.proofs.Changing.{tries_change_spaces}
use Rattle.fill_laws.proofs.laws.tries_change_spaces.Goals as goal

pub returns : goal.returns
returns c = tries_change_spaces
