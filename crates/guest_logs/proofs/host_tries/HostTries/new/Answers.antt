use Rattle.guest_logs.proofs.Alone.{booted_alone}
use Rattle.guest_logs.proofs.host_tries.HostTries.new.Goals as goal

pub invariant_of-result : goal.invariant_of-result
invariant_of-result c = booted_alone c.in_ok-booted.field-0 _ c.in_ok-booted.ensures.machines c.in_ok-booted.ensures.active
