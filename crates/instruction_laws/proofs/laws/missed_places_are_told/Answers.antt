use Rattle.instruction_laws.proofs.MissedPlaces.{missed_is_told, missed_is_wanted, missed_offset}
use Rattle.instruction_laws.proofs.laws.missed_places_are_told.Goals as goal

pub returns-clause-wanted : goal.returns-clause-wanted
returns-clause-wanted c = missed_is_wanted

pub returns-clause-offset : goal.returns-clause-offset
returns-clause-offset c = missed_offset

pub returns-clause-told : goal.returns-clause-told
returns-clause-told c = missed_is_told
