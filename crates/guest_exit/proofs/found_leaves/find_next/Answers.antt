use Rattle.guest_exit.specs.View.{machine_of}
use Rattle.guest_exit.proofs.NoTable.{bare_finds_nothing}
use Rattle.guest_exit.proofs.found_leaves.find_next.Goals as goal

pub returns-in-Bare-clause-value : goal.returns-in-Bare-clause-value
returns-in-Bare-clause-value c =
    bare_finds_nothing (machine_of c.args.guest.now c.args.memory.now) c.args.found.now c.requires.none (rw c.supervisor_of.ensures at c.in-Bare.is)
