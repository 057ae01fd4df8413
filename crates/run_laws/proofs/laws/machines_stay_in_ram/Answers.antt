use Rattle.run_laws.proofs.InRam.{fill_stays_in_ram, gives_ram, start_is_in_ram, stays_in_ram, try_stays_in_ram}
use Rattle.run_laws.proofs.laws.machines_stay_in_ram.Goals as goal

pub returns-clause-start : goal.returns-clause-start
returns-clause-start c = start_is_in_ram

pub returns-clause-gives : goal.returns-clause-gives
returns-clause-gives c = gives_ram

pub returns-clause-filled : goal.returns-clause-filled
returns-clause-filled c = fill_stays_in_ram

pub returns-clause-tried : goal.returns-clause-tried
returns-clause-tried c = try_stays_in_ram

pub returns-clause-runs : goal.returns-clause-runs
returns-clause-runs c = stays_in_ram
