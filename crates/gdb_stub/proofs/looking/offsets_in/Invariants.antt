use Rattle.std.proofs.Common.{◌≡◌, ◌-◌, ◌++◌}
use Rattle.gdb_stub.specs.Looking.{offsets_in}
use Rattle.run_positions.specs.Positions.{shown_of, KeepsRun}
use Rattle.gdb_stub.proofs.looking.offsets_in.Given as goal

abbrev pub invariant-loop-i : goal.invariant-loop-i
invariant-loop-i g l = record {
  keeps : KeepsRun g.R.Runner l.fn.positions l.positions;
  machine : shown_of g.R.Runner l.positions ≡ shown_of g.R.Runner l.fn.positions;
  place : l.positions.place ≡ l.fn.positions.place;
  offsets : l.offsets.items ++ offsets_in (shown_of g.R.Runner l.fn.positions) l.address (l.n - l.i)
      ≡ offsets_in (shown_of g.R.Runner l.fn.positions) l.from l.n;
}
