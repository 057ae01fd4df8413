use Rattle.std.proofs.Common.{◌≡◌, take}
use Rattle.gdb_stub.specs.Sessions.{pcs_without}
use Rattle.gdb_stub.proofs.stop_sets.pcs_without.Given as goal

abbrev pub invariant-loop-i : goal.invariant-loop-i
invariant-loop-i l = l.rest.items ≡ pcs_without l.address (take l.i l.pcs)
