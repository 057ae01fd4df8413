use Rattle.fill_laws.proofs.Ruling.{flat_is_ram, folds_by_front, front_gives_places}
use Rattle.fill_laws.proofs.laws.folds_by_the_front_space.Goals as goal

pub returns-clause-folding : goal.returns-clause-folding
returns-clause-folding c = folds_by_front

pub returns-clause-places : goal.returns-clause-places
returns-clause-places c = front_gives_places

pub returns-clause-flat : goal.returns-clause-flat
returns-clause-flat c = flat_is_ram
