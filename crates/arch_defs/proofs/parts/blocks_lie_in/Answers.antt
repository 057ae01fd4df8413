use Rattle.std.proofs.Common.{rules}
use Rattle.arch_defs.proofs.Rooms.{blocks_test}
use Rattle.arch_defs.proofs.parts.blocks_lie_in.Goals as goal

pub returns : goal.returns
returns c = blocks_test c.args.blocks.now c.args.size _ (search rules)
