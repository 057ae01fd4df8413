use Rattle.std.proofs.Common.{◌≡◌, take}
use Rattle.std.specs.List.{flat_map}
use Rattle.gdb_stub.specs.Registers.{value_bytes}
use Rattle.gdb_stub.proofs.register_texts.values.Given as goal

abbrev pub invariant-loop-i : goal.invariant-loop-i
invariant-loop-i l = l.bytes.items ≡ flat_map value_bytes (take l.i l.x)
