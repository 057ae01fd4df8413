use Rattle.shadow_space.proofs.Counting.{no_count}
use Rattle.shadow_space.specs.Trees.{most_tables}
use Rattle.shadow_space.proofs.frames.no_counts.Goals as goal

pub returns-clause-zeros : goal.returns-clause-zeros
returns-clause-zeros c = λ i. no_count most_tables i
