use Rattle.std.proofs.Common.{◌≡◌}
use Rattle.guest_save.specs.Reading.{after_spaces, leading_spaces}
use Rattle.guest_save.proofs.items.spaces_in.Given as goal

abbrev pub invariant-loop-i : goal.invariant-loop-i
invariant-loop-i l = record {
  read : l.spaces.items ≡ leading_spaces l.i l.bytes;
  rest : l.rest ≡ after_spaces l.i l.bytes;
}
