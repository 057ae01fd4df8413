use Rattle.std.proofs.Common.{arith}
use Rattle.shadow_space.proofs.Counting.{numbers_more}
use Rattle.shadow_space.proofs.frames.numbers.Goals as goal

pub loop-i-preserved : goal.loop-i-preserved
loop-i-preserved c =
    numbers_more c.loop-i.numbers c.args.count c.loop-i.i (omega (arith, c.loop-i-test.true)) c.requires c.loop-i.invariant.0 c.loop-i.invariant.1
