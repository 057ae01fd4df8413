use Rattle.std.proofs.Common.{◌≡◌, take}
use Rattle.gdb_packets.specs.Frames.{escaped}
use Rattle.gdb_packets.proofs.escapes.escaped.Given as goal

abbrev pub invariant-loop-i : goal.invariant-loop-i
invariant-loop-i l = l.body.items ≡ escaped (take l.i l.payload)
