use Rattle.std.proofs.Common.{arith}
use Rattle.guest_turns.proofs.Leaving.{all_zeroed, block_fits, one_zeroed, none_zeroed}
use Rattle.guest_turns.proofs.retirement.zero_blocks.Goals as goal

pub loop-i-init : goal.loop-i-init
loop-i-init c = record { done = none_zeroed c.args.blocks.now c.args.memory.now }

pub zero_block-requires : goal.zero_block-requires
zero_block-requires c = block_fits c.args.blocks.now c.args.memory.now c.loop-i.i c.loop-i.memory c.requires c.loop-i.invariant.done c.loop-i-test.true

pub loop-i-preserved : goal.loop-i-preserved
loop-i-preserved c = record { done = one_zeroed c.args.blocks.now c.args.memory.now c.loop-i.i c.loop-i.memory c.zero_block.new.self c.requires c.loop-i.invariant.done c.loop-i-test.true c.zero_block.ensures }

pub returns-clause-zeros : goal.returns-clause-zeros
returns-clause-zeros c = all_zeroed c.args.blocks.now c.args.memory.now c.loop-i.i c.loop-i.memory c.loop-i.invariant.done (omega (arith, c.loop-i-test.false))
