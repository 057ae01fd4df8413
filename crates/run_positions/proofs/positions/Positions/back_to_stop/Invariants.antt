use Rattle.std.proofs.Common.{◌≡◌, ◌^◌, ◌≤◌}
use Rattle.run_positions.specs.Positions.{KeepsRun, begin_of}
use Rattle.run_positions.specs.Stops.{last_stop}
use Rattle.run_positions.proofs.positions.Positions.back_to_stop.Given as goal

abbrev pub invariant-loop-high : goal.invariant-loop-high
invariant-loop-high g l = record {
  keeps : KeepsRun g.R.Runner l.fn.self l.self;
  few : l.high ≤ 2 ^ 52;
  stop : last_stop (begin_of g.R.Runner l.fn.self) l.stops l.high ≡ last_stop (begin_of g.R.Runner l.fn.self) l.stops l.fn.self.place;
}

abbrev pub decreases-loop-high : goal.decreases-loop-high
decreases-loop-high g l = l.high
