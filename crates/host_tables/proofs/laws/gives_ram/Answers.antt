use Rattle.host_tables.proofs.Held.{gives_ram, host_misses}
use Rattle.host_tables.proofs.laws.gives_ram.Goals as goal

-- src/laws.rt:20:1
pub returns-clause-places : goal.returns-clause-places
returns-clause-places c = gives_ram c.args.part.now c.names_each_once.ensures

pub returns-clause-misses : goal.returns-clause-misses
returns-clause-misses c = host_misses c.args.part.now c.names_each_once.ensures
