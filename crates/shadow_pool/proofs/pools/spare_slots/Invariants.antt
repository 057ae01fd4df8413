use Rattle.shadow_pool.specs.Slots.{AreSpare}
use Rattle.shadow_pool.proofs.pools.spare_slots.Given as goal

abbrev pub invariant-loop-i : goal.invariant-loop-i
invariant-loop-i l = record { made : AreSpare l.part l.entries l.i l.slots.items }
