use Rattle.std.proofs.Common.{◌≡◌, ◌*◌, drop}
use Rattle.guest_save.specs.Reading.{entries_in}
use Rattle.guest_save.proofs.items.entries_in.Given as goal

abbrev pub invariant-loop-i : goal.invariant-loop-i
invariant-loop-i l = record {
  read : l.entries.items ≡ entries_in l.i l.bytes;
  rest : l.rest ≡ drop (24 * l.i) l.bytes;
}
