use Rattle.run_laws.proofs.Keys.{keys_stay, start_has_keys, tables_stay}
use Rattle.run_laws.proofs.laws.spaces_stay_keyed.Goals as goal

pub returns-clause-start : goal.returns-clause-start
returns-clause-start c = start_has_keys

pub returns-clause-keys : goal.returns-clause-keys
returns-clause-keys c = keys_stay

pub returns-clause-entries : goal.returns-clause-entries
returns-clause-entries c = tables_stay
