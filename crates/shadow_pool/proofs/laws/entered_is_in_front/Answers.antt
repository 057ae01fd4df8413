use Rattle.instruction_laws.proofs.FrontSpaces.{in_front}
use Rattle.shadow_pool.proofs.Front.{again}
use Rattle.shadow_pool.proofs.laws.entered_is_in_front.Goals as goal

pub returns-clause-front : goal.returns-clause-front
returns-clause-front c = in_front

pub returns-clause-again : goal.returns-clause-again
returns-clause-again c = again
