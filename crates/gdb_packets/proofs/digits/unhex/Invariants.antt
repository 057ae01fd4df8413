use Rattle.std.proofs.Common.{◌≡◌, ◌-◌, drop, length}
use Rattle.gdb_packets.proofs.Fronts.{joined}
use Rattle.gdb_packets.specs.Digits.{unhex}
use Rattle.gdb_packets.proofs.digits.unhex.Given as goal

abbrev pub invariant-loop-place : goal.invariant-loop-place
invariant-loop-place l = joined l.bytes.items (unhex (drop l.place l.digits)) ≡ unhex l.digits

abbrev pub decreases-loop-place : goal.decreases-loop-place
decreases-loop-place l = length l.digits - l.place
