use Rattle.std.proofs.Common.{sym, ◌∙◌}
use Rattle.guest_exit.specs.View.{machine_of}
use Rattle.guest_exit.proofs.NextSteps.{word_due, word_is, word_undue}
use Rattle.guest_exit.proofs.next_steps.word_next.Goals as goal

pub returns-in-Some : goal.returns-in-Some
returns-in-Some c = word_due (machine_of c.args.guest.now c.args.memory.now) (sym c.pending.ensures ∙ c.in-Some.is)

pub returns-in-None : goal.returns-in-None
returns-in-None c =
    let guest = c.args.guest.now in
    let m = machine_of guest c.args.memory.now in
    (rw c.load_for.ensures at c.word_at_pc.ensures)
    ∙ word_is guest.part guest.pool m c.args.memory.now c.requires
    ∙ word_undue m (sym c.pending.ensures ∙ c.in-None.is)
