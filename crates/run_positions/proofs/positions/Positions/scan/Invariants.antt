use Rattle.std.proofs.Common.{◌-◌, ◌≤◌, ◌<◌, IfSome}
use Rattle.run_positions.specs.Positions.{KeepsRun, begin_of}
use Rattle.run_positions.specs.Stops.{IsFoundFrom}
use Rattle.run_positions.proofs.positions.Positions.scan.Given as goal

abbrev pub invariant-loop-self : goal.invariant-loop-self
invariant-loop-self g l = record {
  keeps : KeepsRun g.R.Runner l.fn.self l.self;
  within : l.self.place ≤ l.high;
  found : IsFoundFrom (begin_of g.R.Runner l.fn.self) l.stops l.fn.self.place l.self.place l.found;
  early : IfSome l.found (λ place. place < l.self.place);
}

abbrev pub decreases-loop-self : goal.decreases-loop-self
decreases-loop-self g l = l.high - l.self.place
