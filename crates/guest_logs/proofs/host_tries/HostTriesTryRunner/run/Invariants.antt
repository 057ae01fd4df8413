use Rattle.std.proofs.Common.{◌≡◌, ◌+◌, ◌≤◌}
use Rattle.machine_defs.specs.Runs.{run}
use Rattle.guest_logs.proofs.host_tries.HostTriesTryRunner.run.Given as goal

abbrev pub decreases-loop-left : goal.decreases-loop-left
decreases-loop-left l = l.left

abbrev pub invariant-loop-left : goal.invariant-loop-left
invariant-loop-left l = record {
  machine : run l.self l.left ≡ run l.fn.self l.k;
  within : l.left ≤ l.k;
  most : l.self.platform.steps + l.left ≤ l.fn.self.platform.steps + l.k;
}
