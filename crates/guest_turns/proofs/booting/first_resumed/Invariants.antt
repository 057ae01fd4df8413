use Rattle.std.proofs.Common.{◌≡◌, take}
use Rattle.guest_turns.proofs.booting.first_resumed.Given as goal

abbrev pub invariant-loop-i : goal.invariant-loop-i
invariant-loop-i l = l.first ≡ take l.i l.saved.machine.platform.virt.first
