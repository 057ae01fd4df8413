use Rattle.run_laws.proofs.FirstKeys.{first_stays, first_stays_storable, start_has_first}
use Rattle.run_laws.proofs.laws.first_stays_keyed.Goals as goal

pub returns-clause-start : goal.returns-clause-start
returns-clause-start c = start_has_first

pub returns-clause-runs : goal.returns-clause-runs
returns-clause-runs c = first_stays

pub returns-clause-storable : goal.returns-clause-storable
returns-clause-storable c = first_stays_storable
