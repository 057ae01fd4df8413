use Rattle.guest_save.proofs.Deciding.{form_is_saved, saved_exactly, unsaved_is_bad}
use Rattle.guest_save.proofs.laws.saved_is_decided.Goals as goal

pub returns-clause-exactly : goal.returns-clause-exactly
returns-clause-exactly c = saved_exactly

pub returns-clause-form : goal.returns-clause-form
returns-clause-form c = form_is_saved

pub returns-clause-bad : goal.returns-clause-bad
returns-clause-bad c = unsaved_is_bad
