use Rattle.stage_walk.proofs.Chains.{path_is_linked, linked_is_path, lies_in_table, places_aligned}
use Rattle.stage_walk.proofs.laws.entries_met_are_linked.Goals as goal

pub returns-clause-linked : goal.returns-clause-linked
returns-clause-linked c = path_is_linked

pub returns-clause-only : goal.returns-clause-only
returns-clause-only c = linked_is_path

pub returns-clause-inside : goal.returns-clause-inside
returns-clause-inside c = lies_in_table

pub returns-clause-aligned : goal.returns-clause-aligned
returns-clause-aligned c = places_aligned
