use Rattle.phys_mem.proofs.Views.{host_inside}
use Rattle.phys_mem.proofs.ram.read.Goals as goal

pub load-requires-clause-inside : goal.load-requires-clause-inside
load-requires-clause-inside c = rw c.host_place.ensures.value (host_inside c.args.part.now.blocks _ c.args.offset c.requires.backed c.requires.inside)
