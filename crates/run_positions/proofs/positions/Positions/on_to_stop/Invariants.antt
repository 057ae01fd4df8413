use Rattle.std.proofs.Common.{◌≡◌, ◌-◌}
use Rattle.run_positions.specs.Positions.{KeepsRun, begin_of}
use Rattle.run_positions.specs.Stops.{next_stop}
use Rattle.run_positions.proofs.positions.Positions.on_to_stop.Given as goal

abbrev pub invariant-loop-self : goal.invariant-loop-self
invariant-loop-self g l = record {
  keeps : KeepsRun g.R.Runner l.fn.self l.self;
  stop : next_stop (begin_of g.R.Runner l.fn.self) l.stops l.self.place (l.n - l.self.place)
      ≡ next_stop (begin_of g.R.Runner l.fn.self) l.stops l.fn.self.place (l.n - l.fn.self.place);
}

abbrev pub decreases-loop-self : goal.decreases-loop-self
decreases-loop-self g l = l.n - l.self.place
