use Rattle.trap_delegation.proofs.Due.{due_is_pending, due_is_enabled, due_is_taken, due_goes_to_its_level, none_is_missed, nothing_due}
use Rattle.trap_delegation.proofs.laws.due_is_taken.Goals as goal

pub returns-clause-pending : goal.returns-clause-pending
returns-clause-pending c = due_is_pending

pub returns-clause-enabled : goal.returns-clause-enabled
returns-clause-enabled c = due_is_enabled

pub returns-clause-taken : goal.returns-clause-taken
returns-clause-taken c = due_is_taken

pub returns-clause-target : goal.returns-clause-target
returns-clause-target c = due_goes_to_its_level

pub returns-clause-none : goal.returns-clause-none
returns-clause-none c = none_is_missed

pub returns-clause-nothing : goal.returns-clause-nothing
returns-clause-nothing c = nothing_due
