use Rattle.std.specs.Prelude.{◌≡◌, ◌≤◌, length, take}
use Rattle.arch_defs.specs.FirstBuffers.{IsEmptyFrom}
use Rattle.arch_defs.specs.FirstEntries.{first_room}
use Rattle.arch_defs.proofs.first_buffers.empty.Given as goal

abbrev pub invariant-loop-first : goal.invariant-loop-first
invariant-loop-first l = record {
  room : length l.slots ≡ first_room;
  bound : l.first ≤ l.to;
  front : take l.from l.slots ≡ take l.from l.fn.slots;
  rest : IsEmptyFrom l.first l.slots;
}

abbrev pub decreases-loop-first : goal.decreases-loop-first
decreases-loop-first l = l.first
