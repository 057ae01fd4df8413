use Rattle.std.proofs.Common.{◌≡◌, ◌+◌, ◌≤◌, drop, length}
use Rattle.shadow_pool.specs.Slots.{KeepsPool, TidyPool, space_at, spaces_of}
use Rattle.guest_turns.specs.Remaking.{FitsPool, partly}
use Rattle.guest_turns.proofs.remaking.remake_space.Given as goal

abbrev pub invariant-loop-j : goal.invariant-loop-j
invariant-loop-j l = record {
  within : l.j ≤ length (space_at l.saved.machine.spaces l.i).entries;
  spaces : spaces_of l.pool ≡ partly l.j (space_at l.saved.machine.spaces l.i) (drop (l.i + 1) l.saved.machine.spaces);
  fits : FitsPool l.saved.machine l.pool;
  keeps : KeepsPool l.fn.pool l.fn.memory l.pool l.memory;
  tidy : TidyPool l.pool l.memory;
}
