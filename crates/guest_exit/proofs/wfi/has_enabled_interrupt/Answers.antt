use Rattle.std.proofs.Common.{◌∙◌, sym}
use Rattle.guest_exit.proofs.Pending.{by_second_level}
use Rattle.guest_exit.proofs.wfi.has_enabled_interrupt.Goals as goal

pub returns-else-any_in_both : goal.returns-else-any_in_both
returns-else-any_in_both c =
    c.any_in_both-else-any_in_both.ensures ∙ by_second_level c.args.csrs.now (sym c.any_in_both.ensures ∙ c.if-any_in_both.false)
