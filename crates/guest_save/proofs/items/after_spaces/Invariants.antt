use Rattle.std.proofs.Common.{◌≡◌}
use Rattle.guest_save.specs.Reading.{after_spaces}
use Rattle.guest_save.proofs.items.after_spaces.Given as goal

abbrev pub invariant-loop-i : goal.invariant-loop-i
invariant-loop-i l = l.rest ≡ after_spaces l.i l.bytes
