use Rattle.std.proofs.Common.{sym}
use Rattle.phys_mem.proofs.Views.{shown, hidden, put_there, put_nowhere}
use Rattle.phys_mem.proofs.ram.RamMem.set.Goals as goal

pub returns-in-Some-clause-inside : goal.returns-in-Some-clause-inside
returns-in-Some-clause-inside c =
    sym (shown c.args.self.now.part.now.blocks c.args.self.now.mem.now c.args.at c.in-Some.offset c.args.width
    c.requires.width c.requires.backed c.in-Some.ensures.inside.0 c.requires.aligned c.in-Some.ensures.inside.1)

pub returns-in-Some-clause-bytes : goal.returns-in-Some-clause-bytes
returns-in-Some-clause-bytes c =
    put_there c.args.self.now.part.now.blocks c.args.self.now.mem.now _ c.args.at c.in-Some.offset c.args.width c.args.value
    c.requires.width c.requires.backed c.in-Some.ensures.inside.0 c.requires.aligned c.in-Some.ensures.inside.1 c.write.ensures.ram

pub returns-in-None-clause-inside : goal.returns-in-None-clause-inside
returns-in-None-clause-inside c =
    sym (hidden c.args.self.now.part.now.blocks c.args.self.now.mem.now c.args.at c.args.width c.requires.width c.requires.backed c.in-None.ensures.outside)

pub returns-in-None-clause-bytes : goal.returns-in-None-clause-bytes
returns-in-None-clause-bytes c =
    put_nowhere c.args.self.now.part.now.blocks c.args.self.now.mem.now c.args.at c.args.width c.args.value c.requires.width c.requires.backed c.in-None.ensures.outside
