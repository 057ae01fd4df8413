use Rattle.translation_buffer.proofs.Hits.{hit_is_place, hits_find_nothing}
use Rattle.translation_buffer.proofs.laws.hits_are_known.Goals as goal

pub returns-clause-place : goal.returns-clause-place
returns-clause-place c = hit_is_place

pub returns-clause-none : goal.returns-clause-none
returns-clause-none c = hits_find_nothing
