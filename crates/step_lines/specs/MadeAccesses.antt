-- An access to data with its place, as the log names it.
use Rattle.run_log.specs.Steps.{MadeAccess}
use Rattle.step_lines.specs.declared.accesses.MadeAccess as made

abbrev pub made_seen : made.MadeAccess → MadeAccess
made_seen a = record { access = a.access; place = a.place }
