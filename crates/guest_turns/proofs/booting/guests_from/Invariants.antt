use Rattle.std.proofs.Common.{◌≡◌, length}
use Rattle.guest_turns.specs.Hosting.{AreLaidOut, AreMade}
use Rattle.guest_turns.proofs.booting.guests_from.Given as goal

abbrev pub invariant-loop-source : goal.invariant-loop-source
invariant-loop-source l = record {
  can_next : (goal.iterator-loop-source).can_next l.source-iterator;
  finite : (goal.iterator-loop-source).is_finite l.source-iterator;
  index : l.i ≡ length l.yielded;
  made : AreMade l.yielded l.parts l.guests.items l.memory;
  laid : AreLaidOut l.fn.sources.items l.parts (length l.fn.sources.items) l.i l.memory;
  size : length l.memory ≡ length l.fn.memory;
}
