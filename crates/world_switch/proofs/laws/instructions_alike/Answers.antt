use Rattle.world_switch.proofs.Instructions.{fences_alike, returns_alike, time_is_left, waits_are_left}
use Rattle.world_switch.proofs.laws.instructions_alike.Goals as goal

pub returns-clause-returns : goal.returns-clause-returns
returns-clause-returns c = returns_alike

pub returns-clause-fences : goal.returns-clause-fences
returns-clause-fences c = fences_alike

pub returns-clause-waits : goal.returns-clause-waits
returns-clause-waits c = waits_are_left

pub returns-clause-time : goal.returns-clause-time
returns-clause-time c = time_is_left
