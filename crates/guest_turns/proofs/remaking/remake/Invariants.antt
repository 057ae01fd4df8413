use Rattle.std.proofs.Common.{◌≡◌, ◌≤◌, drop, length}
use Rattle.guest_turns.specs.Remaking.{FitsPool}
use Rattle.shadow_pool.specs.Slots.{KeepsPool, TidyPool, spaces_of}
use Rattle.guest_turns.proofs.remaking.remake.Given as goal

abbrev pub invariant-loop-i : goal.invariant-loop-i
invariant-loop-i l = record {
  within : l.i ≤ length l.saved.machine.spaces;
  spaces : spaces_of l.pool ≡ drop l.i l.saved.machine.spaces;
  fits : FitsPool l.saved.machine l.pool;
  keeps : KeepsPool l.fn.pool l.fn.memory l.pool l.memory;
  tidy : TidyPool l.pool l.memory;
}

abbrev pub decreases-loop-i : goal.decreases-loop-i
decreases-loop-i l = l.i
