use Rattle.world_switch.proofs.Undone.{exceptions_alike, interrupts_alike, nested_traps_alike}
use Rattle.world_switch.proofs.laws.traps_alike.Goals as goal

pub returns-clause-exceptions : goal.returns-clause-exceptions
returns-clause-exceptions c = exceptions_alike

pub returns-clause-interrupts : goal.returns-clause-interrupts
returns-clause-interrupts c = interrupts_alike

pub returns-clause-nested : goal.returns-clause-nested
returns-clause-nested c = nested_traps_alike
