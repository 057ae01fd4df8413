use Rattle.std.proofs.Common.{◌∙◌}
use Rattle.run_config.proofs.Weighing.{all_light, all_weights}
use Rattle.run_config.proofs.schedules.weights_fault.Goals as goal

pub returns-clause-passed : goal.returns-clause-passed
returns-clause-passed c = all_light _ _ (c.loop-guest.invariant ∙ all_weights _ _ _ c.loop-guest-test.false)
