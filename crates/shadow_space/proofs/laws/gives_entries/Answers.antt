use Rattle.shadow_space.proofs.Giving.{gives, in_ram, lacks}
use Rattle.shadow_space.proofs.laws.gives_entries.Goals as goal

pub returns-clause-places : goal.returns-clause-places
returns-clause-places c = gives

pub returns-clause-faults : goal.returns-clause-faults
returns-clause-faults c = lacks

pub returns-clause-ram : goal.returns-clause-ram
returns-clause-ram c = in_ram
