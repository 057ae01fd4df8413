use Rattle.std.proofs.Common.{◌∙◌}
use Rattle.guest_exit.specs.View.{machine_of}
use Rattle.hosted_steps.proofs.Followed.{found_is, wanted_is}
use Rattle.guest_exit.proofs.NoTable.{bare_finds_nothing}
use Rattle.guest_exit.proofs.found_leaves.next_step.Goals as goal

pub returns-in-Bare-clause-found : goal.returns-in-Bare-clause-found
returns-in-Bare-clause-found c =
    bare_finds_nothing (machine_of c.args.guest.now c.args.memory.now) c.args.found.now c.requires.none (rw c.supervisor_of.ensures at c.in-Bare.is)

pub returns-in-Bare-clause-wanted : goal.returns-in-Bare-clause-wanted
returns-in-Bare-clause-wanted c =
    let guest = c.args.guest.now in
    (rw c.load_for.ensures at c.wanted_at.ensures)
    ∙ wanted_is guest.part guest.pool (machine_of guest c.args.memory.now) c.args.memory.now c.requires.left.can.placed

pub returns-in-Table-clause-found : goal.returns-in-Table-clause-found
returns-in-Table-clause-found c =
    let guest = c.args.guest.now in
    (rw c.load_for.ensures at c.next_at_exit.ensures.found)
    ∙ found_is guest.part guest.pool (machine_of guest c.args.memory.now) c.args.memory.now c.requires.left.own c.requires.left.can.placed

pub returns-in-Table-clause-wanted : goal.returns-in-Table-clause-wanted
returns-in-Table-clause-wanted c =
    let guest = c.args.guest.now in
    (rw c.load_for.ensures at c.next_at_exit.ensures.wanted)
    ∙ wanted_is guest.part guest.pool (machine_of guest c.args.memory.now) c.args.memory.now c.requires.left.can.placed
