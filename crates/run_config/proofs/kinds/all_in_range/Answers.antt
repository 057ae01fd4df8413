use Rattle.std.proofs.Common.{◌∙◌}
use Rattle.run_config.proofs.RowTests.{no_value}
use Rattle.run_config.proofs.kinds.all_in_range.Goals as goal

pub returns : goal.returns
returns c = c.loop-row.invariant ∙ no_value _ _ _ _ c.loop-row-test.false
