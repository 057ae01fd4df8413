use Rattle.run_log.proofs.Unique.{log_is_one}
use Rattle.run_log.proofs.laws.log_is_one.Goals as goal

pub returns : goal.returns
returns c = log_is_one
