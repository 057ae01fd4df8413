use Rattle.hosted_steps.proofs.Followed.{followed}
use Rattle.hosted_steps.proofs.Taken.{time_exits, waits_exit}
use Rattle.hosted_steps.proofs.laws.hart_steps_follow.Goals as goal

pub returns-clause-steps : goal.returns-clause-steps
returns-clause-steps c = followed

pub returns-clause-waits : goal.returns-clause-waits
returns-clause-waits c = waits_exit

pub returns-clause-time : goal.returns-clause-time
returns-clause-time c = time_exits
