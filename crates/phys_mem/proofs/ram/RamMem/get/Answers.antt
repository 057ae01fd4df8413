use Rattle.phys_mem.proofs.Views.{got, got_none}
use Rattle.phys_mem.proofs.ram.RamMem.get.Goals as goal

pub returns-in-Some-clause-number : goal.returns-in-Some-clause-number
returns-in-Some-clause-number c =
    got c.args.self.now.part.now.blocks c.args.self.now.mem.now c.args.at c.in-Some.offset c.args.width c.read.result
    c.requires.width c.requires.backed c.in-Some.ensures.inside.0 c.requires.aligned c.in-Some.ensures.inside.1 c.read.ensures

pub returns-in-None-clause-number : goal.returns-in-None-clause-number
returns-in-None-clause-number c =
    got_none c.args.self.now.part.now.blocks c.args.self.now.mem.now c.args.at c.args.width c.requires.width c.requires.backed c.in-None.ensures.outside
