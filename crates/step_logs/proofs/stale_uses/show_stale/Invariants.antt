use Rattle.std.proofs.Common.{◌≡◌, ◌≤◌, take}
use Rattle.std.specs.List.{flat_map}
use Rattle.arrayvec.specs.ArrayVec.{array_vec_len}
use Rattle.step_logs.specs.StaleUses.{stale_if}
use Rattle.step_logs.proofs.stale_uses.show_stale.Given as goal

abbrev pub invariant-loop-i : goal.invariant-loop-i
invariant-loop-i g l = record {
  items : l.stale.items ≡ flat_map (stale_if (g.R.TryRunner.machine l.fn.runner)) (take l.i l.all);
  stays : g.R.TryRunner.machine l.runner ≡ g.R.TryRunner.machine l.fn.runner;
  few : array_vec_len l.stale ≤ l.i;
}
