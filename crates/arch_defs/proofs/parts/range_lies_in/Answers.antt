use Rattle.std.proofs.Common.{rules}
use Rattle.arch_defs.proofs.Rooms.{range_test}
use Rattle.arch_defs.proofs.parts.range_lies_in.Goals as goal

pub returns : goal.returns
returns c = range_test c.args.first c.args.count c.args.size _ c.requires.some (search rules)
