use Rattle.std.proofs.Common.{◌∙◌}
use Rattle.run_config.proofs.RowTests.{no_key}
use Rattle.run_config.proofs.kinds.all_present.Goals as goal

pub returns : goal.returns
returns c = c.loop-row.invariant ∙ no_key _ _ _ _ c.loop-row-test.false
