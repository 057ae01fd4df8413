use Rattle.run_laws.proofs.StorableRuns.{fill_stays_storable, start_is_storable, stays_storable, try_stays_storable}
use Rattle.run_laws.proofs.laws.machines_stay_storable.Goals as goal

pub returns-clause-start : goal.returns-clause-start
returns-clause-start c = start_is_storable

pub returns-clause-filled : goal.returns-clause-filled
returns-clause-filled c = fill_stays_storable

pub returns-clause-tried : goal.returns-clause-tried
returns-clause-tried c = try_stays_storable

pub returns-clause-runs : goal.returns-clause-runs
returns-clause-runs c = stays_storable
