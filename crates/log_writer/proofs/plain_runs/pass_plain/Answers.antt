use Rattle.log_writer.proofs.PlainRuns.{none_passed}
use Rattle.log_writer.proofs.plain_runs.pass_plain.Goals as goal

pub returns-then-tells_plain_steps : goal.returns-then-tells_plain_steps
returns-then-tells_plain_steps g c = none_passed c.args.kinds.now (g.R.TryRunner.machine c.args.runner.now) c.args.most
