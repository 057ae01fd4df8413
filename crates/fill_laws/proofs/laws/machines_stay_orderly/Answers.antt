use Rattle.fill_laws.proofs.Orderly.{fill_stays_orderly, start_is_orderly, stays_orderly, try_stays_orderly}
use Rattle.fill_laws.proofs.laws.machines_stay_orderly.Goals as goal

pub returns-clause-start : goal.returns-clause-start
returns-clause-start c = start_is_orderly

pub returns-clause-filled : goal.returns-clause-filled
returns-clause-filled c = fill_stays_orderly

pub returns-clause-tried : goal.returns-clause-tried
returns-clause-tried c = try_stays_orderly

pub returns-clause-stays : goal.returns-clause-stays
returns-clause-stays c = stays_orderly
