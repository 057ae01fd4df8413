use Rattle.std.proofs.Common.{◌+◌, sym, subst}
use Rattle.shadow_pool.specs.Slots.{AreSpare}
use Rattle.shadow_pool.proofs.Making.{spare_more}
use Rattle.shadow_pool.proofs.pools.spare_slots.Goals as goal

pub loop-i-preserved : goal.loop-i-preserved
loop-i-preserved c = record {
  made = subst (AreSpare c.args.part.now c.args.entries (c.loop-i.i + 1)) (sym c.in_ok-push.ensures.items)
      (spare_more c.args.part.now c.args.entries c.loop-i.i c.loop-i.slots.items _ c.loop-i.invariant.made c.in_ok-spare_slot.ensures);
}
