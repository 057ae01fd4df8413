use Rattle.run_log.proofs.Told.{tells_cause, tells_hs, tells_value}
use Rattle.run_log.proofs.laws.trap_lines_tell.Goals as goal

pub returns-clause-cause : goal.returns-clause-cause
returns-clause-cause c = tells_cause

pub returns-clause-value : goal.returns-clause-value
returns-clause-value c = tells_value

pub returns-clause-hs : goal.returns-clause-hs
returns-clause-hs c = tells_hs
