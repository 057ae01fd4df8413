use Rattle.std.proofs.Common.{◌≡◌, take}
use Rattle.gdb_packets.specs.Digits.{hex}
use Rattle.gdb_packets.proofs.digits.hex_of.Given as goal

abbrev pub invariant-loop-i : goal.invariant-loop-i
invariant-loop-i l = l.digits.items ≡ hex (take l.i l.bytes)
