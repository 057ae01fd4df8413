use Rattle.std.proofs.Common.{◌≡◌, ◌++◌, take}
use Rattle.gdb_stub.specs.Sessions.{watched_at}
use Rattle.gdb_stub.proofs.stop_sets.watch.Given as goal

abbrev pub invariant-loop-i : goal.invariant-loop-i
invariant-loop-i l = l.watched.items ≡ l.fn.watched.items ++ watched_at l.place (take l.i l.offsets)
