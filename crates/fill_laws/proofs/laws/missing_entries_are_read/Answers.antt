use Rattle.fill_laws.proofs.Filling.{flat_misses_nothing, interrupted_misses_nothing}
use Rattle.fill_laws.proofs.Ruling.{missing_entries_are_read, stops_are_faults}
use Rattle.fill_laws.proofs.laws.missing_entries_are_read.Goals as goal

pub returns-clause-read : goal.returns-clause-read
returns-clause-read c = missing_entries_are_read

pub returns-clause-flat : goal.returns-clause-flat
returns-clause-flat c = flat_misses_nothing

pub returns-clause-interrupted : goal.returns-clause-interrupted
returns-clause-interrupted c = interrupted_misses_nothing

pub returns-clause-faults : goal.returns-clause-faults
returns-clause-faults c = stops_are_faults
