use Rattle.shadow_pool.proofs.Changing.{IsFencing}
use Rattle.shadow_pool.proofs.slots.fence.Given as goal

abbrev pub invariant-loop-i : goal.invariant-loop-i
invariant-loop-i l = record { done : IsFencing l.fence l.fn.slots l.fn.mem l.i l.slots l.mem }
