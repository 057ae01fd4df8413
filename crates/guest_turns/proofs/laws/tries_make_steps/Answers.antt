use Rattle.guest_turns.proofs.LastTries.{fills_are_last, fills_leave_step, last_try_is_step}
use Rattle.guest_turns.proofs.laws.tries_make_steps.Goals as goal

pub returns-clause-fills : goal.returns-clause-fills
returns-clause-fills c = fills_leave_step

pub returns-clause-entry : goal.returns-clause-entry
returns-clause-entry c = fills_are_last

pub returns-clause-last : goal.returns-clause-last
returns-clause-last c = last_try_is_step
