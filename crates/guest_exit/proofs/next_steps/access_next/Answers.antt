use Rattle.std.specs.Prelude.{option_and_then}
use Rattle.std.proofs.Common.{ap, sym, ◌∙◌}
use Rattle.guest_exit.specs.NextSteps.{at_own_address}
use Rattle.guest_exit.specs.View.{machine_of}
use Rattle.guest_exit.proofs.NextSteps.{access_due, access_is, access_undue}
use Rattle.guest_exit.proofs.next_steps.access_next.Goals as goal

pub returns-in-Some : goal.returns-in-Some
returns-in-Some c = access_due (machine_of c.args.guest.now c.args.memory.now) (sym c.pending.ensures ∙ c.in-Some.is)

pub returns-in-None : goal.returns-in-None
returns-in-None c =
    let guest = c.args.guest.now in
    let m = machine_of guest c.args.memory.now in
    c.at_own_address.ensures
    ∙ ap (option_and_then (at_own_address guest.part.blocks)) (rw c.load_for.ensures at c.access_at_pc.ensures)
    ∙ access_is guest.part guest.pool m c.args.memory.now c.requires
    ∙ access_undue m (sym c.pending.ensures ∙ c.in-None.is)
