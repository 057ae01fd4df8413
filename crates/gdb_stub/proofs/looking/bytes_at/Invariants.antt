use Rattle.std.proofs.Common.{◌≡◌, take}
use Rattle.gdb_stub.specs.Looking.{bytes_at}
use Rattle.gdb_stub.proofs.looking.bytes_at.Given as goal

abbrev pub invariant-loop-i : goal.invariant-loop-i
invariant-loop-i g l = l.bytes.items ≡ bytes_at (g.R.Runner.machine l.runner) (take l.i l.offsets)
