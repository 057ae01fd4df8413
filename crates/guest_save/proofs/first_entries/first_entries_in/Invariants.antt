use Rattle.std.proofs.Common.{◌≡◌, ◌*◌, drop}
use Rattle.guest_save.specs.Reading.{first_entries_in}
use Rattle.guest_save.proofs.first_entries.first_entries_in.Given as goal

abbrev pub invariant-loop-i : goal.invariant-loop-i
invariant-loop-i l = record {
  read : l.entries.items ≡ first_entries_in l.i l.bytes;
  rest : l.rest ≡ drop (48 * l.i) l.bytes;
}
