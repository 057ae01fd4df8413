use Rattle.instruction_laws.proofs.HostPlaces.{only_ram_changes, places_are_renamed, ram_is_renamed, ram_is_stored}
use Rattle.instruction_laws.proofs.laws.ram_is_renamed.Goals as goal

pub returns-clause-places : goal.returns-clause-places
returns-clause-places c = places_are_renamed

pub returns-clause-renames : goal.returns-clause-renames
returns-clause-renames c = ram_is_renamed

pub returns-clause-stores : goal.returns-clause-stores
returns-clause-stores c = ram_is_stored

pub returns-clause-only : goal.returns-clause-only
returns-clause-only c = only_ram_changes
