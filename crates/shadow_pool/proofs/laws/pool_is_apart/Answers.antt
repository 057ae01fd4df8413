use Rattle.shadow_pool.proofs.Apart.{host_apart, pool_within, ram_apart}
use Rattle.shadow_pool.proofs.laws.pool_is_apart.Goals as goal

pub returns-clause-within : goal.returns-clause-within
returns-clause-within c = pool_within c.args.part.now

pub returns-clause-ram : goal.returns-clause-ram
returns-clause-ram c = ram_apart c.args.part.now c.names_each_once.ensures

pub returns-clause-host : goal.returns-clause-host
returns-clause-host c = host_apart c.args.part.now c.names_each_once.ensures
