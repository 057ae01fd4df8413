-- What is kept for the lines of stale uses, of a step of the log.
use Rattle.std.specs.Prelude.{◌≡◌, ◌++◌}
use Rattle.caching_steps.specs.Remembering.{fill_notes}
use Rattle.machine_defs.specs.Fills.{ready}
use Rattle.run_log.specs.Seen.{Seen}
use Rattle.step_logs.specs.Befores.{before_of}
use Rattle.step_logs.specs.StaleUses.{ShowsUses}
use Rattle.step_logs.specs.declared.befores.Before.{Before}
use Rattle.step_logs.specs.declared.stale_uses.StaleUses.{StaleUses}
use Rattle.log_writer.specs.declared.stale_logs.StaleLog.{StaleLog}

-- what is kept and shown is that of a step's last try
pub record IsShownOf (s : Seen) (kept : Before) (shown : StaleUses) : Type 0 where
  pub before : kept ≡ before_of s.number s.before
  pub last : s.tried ≡ ready s.before
  pub uses : ShowsUses s.tried shown

-- once the last try of a step is made, its fills have been noted, and its uses are shown
pub record HasShown (s : Seen) (old new : StaleLog) : Type 0 where
  pub steps : new.steps ≡ old.steps ++ fill_notes s.number s.before
  pub shown : ShowsUses s.tried new.shown
