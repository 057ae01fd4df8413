use Rattle.shadow_pool.proofs.Front.{front_far, front_gives, front_in_ram, front_misses}
use Rattle.shadow_pool.proofs.laws.front_gives_entries.Goals as goal

pub returns-clause-places : goal.returns-clause-places
returns-clause-places c = front_gives

pub returns-clause-faults : goal.returns-clause-faults
returns-clause-faults c = front_misses

pub returns-clause-ram : goal.returns-clause-ram
returns-clause-ram c = front_in_ram

pub returns-clause-far : goal.returns-clause-far
returns-clause-far c = front_far
