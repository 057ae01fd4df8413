use Rattle.std.proofs.Common.{arith}
use Rattle.shadow_pool.proofs.Changing.{all_fenced, none_fenced, one_fenced}
use Rattle.shadow_pool.proofs.Tidying.{pool_folded}
use Rattle.shadow_pool.proofs.slots.fence.Goals as goal

pub loop-i-init : goal.loop-i-init
loop-i-init c = record { done = none_fenced c.args.fence.now c.args.slots.now c.args.mem.now c.requires }

pub loop-i-preserved : goal.loop-i-preserved
loop-i-preserved c = record {
  done = one_fenced c.args.fence.now c.args.slots.now c.loop-i.slots c.args.mem.now c.loop-i.mem c.fence_one.new.mem c.loop-i.i c.index-slots-i.result c.fence_one.new.slot c.loop-i.invariant.done c.loop-i-test.true
      c.index-slots-i.is c.fence_one.ensures.key c.fence_one.ensures.space c.fence_one.ensures.keeps c.fence_one.ensures.tidy;
}

pub returns-clause-spaces : goal.returns-clause-spaces
returns-clause-spaces c = all_fenced c.args.fence.now c.args.slots.now c.loop-i.slots c.args.mem.now c.loop-i.mem c.loop-i.i (omega (arith, c.loop-i-test.false)) c.loop-i.invariant.done

pub returns-clause-folded : goal.returns-clause-folded
returns-clause-folded c = let done = c.loop-i.invariant.done in pool_folded c.loop-i.slots c.loop-i.mem done.changed.tidy
