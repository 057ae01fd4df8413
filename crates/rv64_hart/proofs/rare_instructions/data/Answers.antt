use Rattle.arch_defs.specs.FirstEntries.{all_filled}
use Rattle.rv64_hart.proofs.rare_instructions.data.Goals as goal

pub returns-in-None-clause-ends : goal.returns-in-None-clause-ends
unfolding all_filled
returns-in-None-clause-ends c = λ event. rw c.in-None.is (c.access_data.ensures.ends event)
