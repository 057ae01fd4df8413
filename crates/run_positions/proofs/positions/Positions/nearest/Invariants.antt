use Rattle.std.proofs.Common.{◌≤◌}
use Rattle.run_positions.specs.Positions.{begin_of, IsKeptState}
use Rattle.run_positions.proofs.positions.Positions.nearest.Given as goal

abbrev pub invariant-loop-i : goal.invariant-loop-i
invariant-loop-i g l = record {
  kept : IsKeptState g.R.Runner (begin_of g.R.Runner l.self) l.self.forms.kept l.found;
  within : l.found.place ≤ l.n;
}
