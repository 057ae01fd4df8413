use Rattle.run_config.proofs.Accepted.{accepted_within}
use Rattle.run_config.proofs.reading.accepted_is_within_limits.Goals as goal

pub returns : goal.returns
returns c = accepted_within
