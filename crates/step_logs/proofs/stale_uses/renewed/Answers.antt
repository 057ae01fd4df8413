use Rattle.std.proofs.Common.{◌∙◌}
use Rattle.step_logs.proofs.StaleLines.{renewed_alike}
use Rattle.step_logs.proofs.stale_uses.renewed.Goals as goal

pub returns-in-Ok-clause-alike : goal.returns-in-Ok-clause-alike
returns-in-Ok-clause-alike g c =
    renewed_alike (g.R.TryRunner.machine c.args.runner.now) c.as_slice.result.now c.args.steps.now c.in-Ok.left
    (c.as_slice.ensures.value ∙ c.in_ok-names.ensures) c.in-Ok.ensures.same
