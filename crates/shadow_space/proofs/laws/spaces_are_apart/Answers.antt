use Rattle.shadow_space.proofs.Partings.{host_apart, ram_apart, spaces_apart, spaces_within}
use Rattle.shadow_space.proofs.laws.spaces_are_apart.Goals as goal

pub returns-clause-within : goal.returns-clause-within
returns-clause-within c = spaces_within c.args.part.now

pub returns-clause-ram : goal.returns-clause-ram
returns-clause-ram c = ram_apart c.args.part.now c.names_each_once.ensures

pub returns-clause-host : goal.returns-clause-host
returns-clause-host c = host_apart c.args.part.now c.names_each_once.ensures

pub returns-clause-spaces : goal.returns-clause-spaces
returns-clause-spaces c = spaces_apart c.args.part.now c.names_each_once.ensures
