use Rattle.std.proofs.Common.{arith}
use Rattle.frame_split.proofs.Between.{once_here}
use Rattle.frame_split.proofs.planning.part_at.Goals as goal

pub new-part-requires : goal.new-part-requires
new-part-requires c =
    once_here c.args.need.now c.args.free c.numbers-slots.result c.requires.need (omega (arith, c.numbers-slots.ensures.slots, c.requires.need.blocks))
    c.numbers-slots.ensures.numbers c.requires.ordered.blocks c.requires.ordered.roots c.requires.begin.aligned
