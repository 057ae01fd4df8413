use Rattle.phys_mem.proofs.Views.{host_inside, written_in_ram, only_written}
use Rattle.phys_mem.proofs.ram.write.Goals as goal

pub store-requires-clause-inside : goal.store-requires-clause-inside
store-requires-clause-inside c = rw c.host_place.ensures.value (host_inside c.args.part.now.blocks _ c.args.offset c.requires.backed c.requires.inside)

pub returns-clause-ram : goal.returns-clause-ram
returns-clause-ram c =
    rw (c.store.ensures, c.host_place.ensures.value)
    (written_in_ram c.args.part.now.blocks c.args.mem.now c.args.offset c.args.width c.args.value c.requires.width c.requires.backed
    c.names_each_once.ensures.distinct c.requires.aligned c.requires.inside)

pub returns-clause-only : goal.returns-clause-only
returns-clause-only c =
    rw (c.store.ensures, c.host_place.ensures.value)
    (only_written c.args.part.now.blocks c.args.mem.now c.args.offset c.args.width c.args.value c.requires.width c.requires.backed c.requires.aligned c.requires.inside)
