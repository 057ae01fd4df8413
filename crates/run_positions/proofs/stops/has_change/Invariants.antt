use Rattle.std.proofs.Common.{◌≡◌, drop}
use Rattle.std.specs.List.{list_any}
use Rattle.run_positions.specs.Stops.{has_changed}
use Rattle.run_positions.proofs.stops.has_change.Given as goal

abbrev pub invariant-loop-i : goal.invariant-loop-i
invariant-loop-i g l = list_any (has_changed (g.R.Runner.machine l.runner)) (drop l.i l.bytes) ≡ list_any (has_changed (g.R.Runner.machine l.runner)) l.bytes
