use Rattle.std.proofs.Common.{◌-◌, ◌≤◌}
use Rattle.run_positions.specs.Positions.{KeepsRun}
use Rattle.run_positions.proofs.positions.Positions.go_on.Given as goal

abbrev pub invariant-loop-self : goal.invariant-loop-self
invariant-loop-self g l = record {
  keeps : KeepsRun g.R.Runner l.fn.self l.self;
  within : l.self.place ≤ l.n;
}

abbrev pub decreases-loop-self : goal.decreases-loop-self
decreases-loop-self g l = l.n - l.self.place
