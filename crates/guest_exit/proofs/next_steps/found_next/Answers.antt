use Rattle.std.proofs.Common.{sym, ◌∙◌}
use Rattle.hosted_steps.proofs.Followed.{found_is}
use Rattle.guest_exit.specs.View.{machine_of}
use Rattle.guest_exit.proofs.NextSteps.{found_due, host_takes_none}
use Rattle.guest_exit.proofs.next_steps.found_next.Goals as goal

pub returns-in-Some-clause-value : goal.returns-in-Some-clause-value
returns-in-Some-clause-value c =
    c.none.ensures.value ∙ found_due (machine_of c.args.guest.now c.args.memory.now) (sym c.pending.ensures ∙ c.in-Some.is)

pub returns-in-None-clause-value : goal.returns-in-None-clause-value
returns-in-None-clause-value c =
    let guest = c.args.guest.now in
    (rw c.load_for.ensures at c.found_at_exit.ensures.value)
    ∙ found_is guest.part guest.pool (machine_of guest c.args.memory.now) c.args.memory.now
    (host_takes_none guest.virt (sym c.pending.ensures ∙ c.in-None.is)) c.requires
