use Rattle.stage_walk.proofs.EntryWords.{zero_maps_nothing, pointer_leads_below, leaf_gives_rights}
use Rattle.stage_walk.proofs.laws.words_say.Goals as goal

pub returns-clause-nothing : goal.returns-clause-nothing
returns-clause-nothing c = zero_maps_nothing

pub returns-clause-below : goal.returns-clause-below
returns-clause-below c = pointer_leads_below

pub returns-clause-rights : goal.returns-clause-rights
returns-clause-rights c = leaf_gives_rights
