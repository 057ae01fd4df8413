use Rattle.std.proofs.Common.{sym, ◌∙◌}
use Rattle.hosted_steps.proofs.Followed.{found_is, wanted_is}
use Rattle.guest_exit.specs.View.{machine_of}
use Rattle.guest_exit.proofs.NextSteps.{found_due, host_takes_none}
use Rattle.guest_exit.proofs.next_steps.step_next.Goals as goal

pub returns-in-Some-clause-found : goal.returns-in-Some-clause-found
returns-in-Some-clause-found c =
    c.none-found.ensures.value ∙ found_due (machine_of c.args.guest.now c.args.memory.now) (sym c.pending.ensures ∙ c.in-Some.is)

pub returns-in-None-clause-wanted : goal.returns-in-None-clause-wanted
returns-in-None-clause-wanted c = λ none.
    let guest = c.args.guest.now in
    (rw c.load_for.ensures at c.next_at_exit-wanted.ensures.wanted)
    ∙ wanted_is guest.part guest.pool (machine_of guest c.args.memory.now) c.args.memory.now c.requires

pub returns-in-None-clause-found : goal.returns-in-None-clause-found
returns-in-None-clause-found c =
    let guest = c.args.guest.now in
    (rw c.load_for.ensures at c.next_at_exit-wanted.ensures.found)
    ∙ found_is guest.part guest.pool (machine_of guest c.args.memory.now) c.args.memory.now
    (host_takes_none guest.virt (sym c.pending.ensures ∙ c.in-None.is)) c.requires
