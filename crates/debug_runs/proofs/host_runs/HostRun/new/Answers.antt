use Rattle.debug_runs.proofs.OneGuest.{booted_one}
use Rattle.debug_runs.proofs.host_runs.HostRun.new.Goals as goal

pub invariant_of-result : goal.invariant_of-result
invariant_of-result c = booted_one c.in_ok-booted.field-0 c.args.source c.requires c.in_ok-booted.ensures.machines c.in_ok-booted.ensures.active
