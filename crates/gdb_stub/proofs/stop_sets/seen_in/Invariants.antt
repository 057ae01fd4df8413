use Rattle.std.proofs.Common.{◌≡◌, take}
use Rattle.gdb_stub.specs.Sessions.{seen_in}
use Rattle.gdb_stub.proofs.stop_sets.seen_in.Given as goal

abbrev pub invariant-loop-i : goal.invariant-loop-i
invariant-loop-i g l = l.seen.items ≡ seen_in (g.R.Runner.machine l.runner) (take l.i l.watched)
