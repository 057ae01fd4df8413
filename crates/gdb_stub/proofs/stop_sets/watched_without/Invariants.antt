use Rattle.std.proofs.Common.{◌≡◌, take}
use Rattle.gdb_stub.specs.Sessions.{watched_without}
use Rattle.gdb_stub.proofs.stop_sets.watched_without.Given as goal

abbrev pub invariant-loop-i : goal.invariant-loop-i
invariant-loop-i l = l.rest.items ≡ watched_without l.place (take l.i l.watched)
