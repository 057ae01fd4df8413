use Rattle.guest_save.proofs.GoingOn.{resumed_goes_on, savable_goes_on, savable_is_filled, saved_first_fresh, saved_use_fresh, start_is_savable}
use Rattle.guest_save.proofs.laws.saved_machines_go_on.Goals as goal

pub returns-clause-goes_on : goal.returns-clause-goes_on
returns-clause-goes_on c = savable_goes_on

pub returns-clause-filled : goal.returns-clause-filled
returns-clause-filled c = savable_is_filled

pub returns-clause-start : goal.returns-clause-start
returns-clause-start c = start_is_savable

pub returns-clause-resumed : goal.returns-clause-resumed
returns-clause-resumed c = resumed_goes_on

pub returns-clause-fresh : goal.returns-clause-fresh
returns-clause-fresh c = saved_use_fresh

pub returns-clause-first : goal.returns-clause-first
returns-clause-first c = saved_first_fresh
