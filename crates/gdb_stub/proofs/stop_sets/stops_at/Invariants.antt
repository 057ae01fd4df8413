use Rattle.std.proofs.Common.{◌≡◌, [], take}
use Rattle.gdb_stub.proofs.stop_sets.stops_at.Given as goal

abbrev pub invariant-loop-i : goal.invariant-loop-i
invariant-loop-i l = l.stops ≡ record { pcs = take l.i l.pcs; bytes = [] }
