use Rattle.std.proofs.Common.{◌≡◌, length}
use Rattle.guest_turns.specs.Hosting.{AreLaidOut}
use Rattle.guest_turns.proofs.booting.lay_out.Given as goal

abbrev pub invariant-loop-i : goal.invariant-loop-i
invariant-loop-i l = record { laid : AreLaidOut l.sources l.parts l.i 0 l.memory; size : length l.memory ≡ length l.fn.memory }
