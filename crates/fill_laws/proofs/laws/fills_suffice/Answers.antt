use Rattle.fill_laws.proofs.Filling.{more_change_nothing, suffices}
use Rattle.fill_laws.proofs.Orderly.{fills_suffice_for_guests}
use Rattle.fill_laws.proofs.Stepping.{steps_settle}
use Rattle.fill_laws.proofs.laws.fills_suffice.Goals as goal

pub returns-clause-suffice : goal.returns-clause-suffice
returns-clause-suffice c = suffices

pub returns-clause-guests : goal.returns-clause-guests
returns-clause-guests c = fills_suffice_for_guests

pub returns-clause-stay : goal.returns-clause-stay
returns-clause-stay c = more_change_nothing

pub returns-clause-steps : goal.returns-clause-steps
returns-clause-steps c = steps_settle
