use Rattle.std.proofs.Common.{sym, ◌∙◌}
use Rattle.guest_exit.proofs.hart_exit.instruction.Goals as goal

pub returns-in-Some : goal.returns-in-Some
returns-in-Some c = rw (sym c.decided_at.ensures.op ∙ c.in-Some.is) c.emulate.ensures.made

pub returns-in-None : goal.returns-in-None
returns-in-None c = rw (sym c.decided_at.ensures.op ∙ c.in-None.is) c.own.ensures
