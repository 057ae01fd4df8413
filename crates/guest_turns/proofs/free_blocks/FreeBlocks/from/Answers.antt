use Rattle.std.proofs.Common.{arith}
use Rattle.guest_turns.proofs.Flags.{set_next, set_none}
use Rattle.guest_turns.proofs.free_blocks.FreeBlocks.from.Goals as goal

pub loop-i-init : goal.loop-i-init
loop-i-init c = set_none c.args.first

pub loop-i-preserved : goal.loop-i-preserved
loop-i-preserved c = set_next c.args.first c.loop-i.i c.loop-i.free c.loop-i.invariant (omega (arith, c.requires, c.loop-i-test.true))
