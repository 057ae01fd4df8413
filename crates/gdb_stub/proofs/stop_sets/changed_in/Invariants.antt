use Rattle.std.proofs.Common.{◌≡◌, drop}
use Rattle.gdb_stub.specs.Sessions.{changed_in}
use Rattle.gdb_stub.proofs.stop_sets.changed_in.Given as goal

abbrev pub invariant-loop-i : goal.invariant-loop-i
invariant-loop-i g l = changed_in (g.R.Runner.machine l.runner) (drop l.i l.seen) ≡ changed_in (g.R.Runner.machine l.runner) l.seen
