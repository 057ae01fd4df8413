use Rattle.fill_laws.proofs.Stepping.{budget_is_small, fill_goes, fill_is_no_event, ready_steps_go, step_ready, try_goes, try_is_event}
use Rattle.fill_laws.proofs.laws.tries_are_few.Goals as goal

pub returns-clause-filled : goal.returns-clause-filled
returns-clause-filled c = fill_goes

pub returns-clause-tried : goal.returns-clause-tried
returns-clause-tried c = try_goes

pub returns-clause-budget : goal.returns-clause-budget
returns-clause-budget c = budget_is_small

pub returns-clause-no_event : goal.returns-clause-no_event
returns-clause-no_event c = fill_is_no_event

pub returns-clause-event : goal.returns-clause-event
returns-clause-event c = try_is_event

pub returns-clause-ready : goal.returns-clause-ready
returns-clause-ready c = step_ready

pub returns-clause-steps : goal.returns-clause-steps
returns-clause-steps c = ready_steps_go
