use Rattle.stage_walk.proofs.EntryWords.{word_small, reads_back, some_with_v}
use Rattle.stage_walk.proofs.laws.words_read_back.Goals as goal

pub returns-clause-fit : goal.returns-clause-fit
returns-clause-fit c = word_small

pub returns-clause-parts : goal.returns-clause-parts
returns-clause-parts c = reads_back

pub returns-clause-set : goal.returns-clause-set
returns-clause-set c = some_with_v
