use Rattle.std.proofs.Common.{◌≡◌, ◌-◌, ◌^◌, ◌<◌, ◌≤◌}
use Rattle.guest_logs.proofs.Numbers.{rest_from}
use Rattle.guest_logs.proofs.host_tries.HostTries.number.Given as goal

abbrev pub decreases-loop-at : goal.decreases-loop-at
decreases-loop-at l = l.at

abbrev pub invariant-loop-at : goal.invariant-loop-at
invariant-loop-at l = record {
  value : l.value ≡ rest_from l.self.ram l.offset l.at l.width;
  within : l.at ≤ l.width;
  small : l.value < 256 ^ (l.width - l.at);
}
