use Rattle.std.proofs.Common.{arith}
use Rattle.shadow_pool.proofs.Moving.{has_moved, moves_next, moves_none}
use Rattle.shadow_pool.proofs.slots.move_to.Goals as goal

pub loop-i-init : goal.loop-i-init
loop-i-init c = record { done = moves_none c.args.part.now c.args.slots.now c.args.mem.now c.requires.tidy c.requires.part }

pub loop-i-preserved : goal.loop-i-preserved
loop-i-preserved c = record {
  done = moves_next c.args.part.now c.args.slots.now c.args.mem.now c.requires.tidy c.requires.part c.loop-i.i c.loop-i.slots c.loop-i.mem c.loop-i.invariant.done c.loop-i-test.true c.index-slots-i.result
      c.move_one.new.slot c.move_one.new.mem c.move_one.ensures.slot c.move_one.ensures.only c.move_one.ensures.tidy;
}

pub returns-clause-moved : goal.returns-clause-moved
returns-clause-moved c = (has_moved c.args.part.now c.args.slots.now c.args.mem.now c.loop-i.i c.loop-i.slots c.loop-i.mem c.requires.tidy c.requires.part c.names_each_once.ensures c.loop-i.invariant.done (omega (arith, c.loop-i-test.false))).moved

pub returns-clause-folded : goal.returns-clause-folded
returns-clause-folded c = (has_moved c.args.part.now c.args.slots.now c.args.mem.now c.loop-i.i c.loop-i.slots c.loop-i.mem c.requires.tidy c.requires.part c.names_each_once.ensures c.loop-i.invariant.done (omega (arith, c.loop-i-test.false))).folded
