use Rattle.instruction_laws.proofs.Placed.{cached_keeps_page}
use Rattle.instruction_laws.proofs.RenamedLeaves.{renamed_leaves}
use Rattle.instruction_laws.proofs.Renaming.{renamed_core, stays_held}
use Rattle.instruction_laws.proofs.laws.renamed_places.Goals as goal

pub returns-clause-renames : goal.returns-clause-renames
returns-clause-renames c = renamed_core

pub returns-clause-keeps : goal.returns-clause-keeps
returns-clause-keeps c = cached_keeps_page

pub returns-clause-leaves : goal.returns-clause-leaves
returns-clause-leaves c = renamed_leaves

pub returns-clause-stays : goal.returns-clause-stays
returns-clause-stays c = stays_held
