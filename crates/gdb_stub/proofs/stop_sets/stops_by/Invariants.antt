use Rattle.std.proofs.Common.{◌≡◌, take}
use Rattle.gdb_stub.specs.Sessions.{stops_by}
use Rattle.gdb_stub.proofs.stop_sets.stops_by.Given as goal

abbrev pub invariant-loop-i : goal.invariant-loop-i
invariant-loop-i l = l.stops ≡ stops_by l.pcs (take l.i l.seen)
