use Rattle.std.specs.Prelude.{◌≡◌, ◌≤◌, drop, length, take}
use Rattle.arch_defs.specs.FirstBuffers.{is_named_by}
use Rattle.arch_defs.specs.FirstEntries.{first_room, unnamed_first}
use Rattle.arch_defs.proofs.first_buffers.keep_unnamed.Given as goal

abbrev pub invariant-loop-i : goal.invariant-loop-i
invariant-loop-i l = record {
  room : length l.slots ≡ first_room;
  few : l.kept ≤ l.i;
  kept : take l.kept l.slots ≡ unnamed_first (is_named_by l.named) (take l.i l.fn.slots);
  rest : drop l.i l.slots ≡ drop l.i l.fn.slots;
}
