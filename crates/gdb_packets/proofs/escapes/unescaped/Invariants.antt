use Rattle.std.proofs.Common.{◌≡◌, ◌-◌, drop, length}
use Rattle.gdb_packets.proofs.Fronts.{joined}
use Rattle.gdb_packets.specs.Frames.{unescaped}
use Rattle.gdb_packets.proofs.escapes.unescaped.Given as goal

abbrev pub invariant-loop-place : goal.invariant-loop-place
invariant-loop-place l = joined l.payload.items (unescaped (drop l.place l.body)) ≡ unescaped l.body

abbrev pub decreases-loop-place : goal.decreases-loop-place
decreases-loop-place l = length l.body - l.place
