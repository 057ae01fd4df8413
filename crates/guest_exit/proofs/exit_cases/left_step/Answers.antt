use Rattle.std.proofs.Common.{sym, ◌∙◌}
use Rattle.std.proofs.lemmas.Bool.{ne_eqb}
use Rattle.arch_defs.specs.declared.modes.TheConstants.{VIRTUAL_INSTRUCTION}
use Rattle.hosted_steps.proofs.ExitCases.{word_exit_is}
use Rattle.guest_exit.proofs.LeftSteps.{other_left, page_left}
use Rattle.guest_exit.proofs.exit_cases.left_step.Goals as goal

pub returns-then-is_guest_page_code : goal.returns-then-is_guest_page_code
returns-then-is_guest_page_code c =
    rw c.missing_step.ensures (page_left c.args.virt.now c.args.trap.now (sym c.is_guest_page_code.ensures ∙ c.if-is_guest_page_code.true))

pub returns-then-trap-eq-VIRTUAL_INSTRUCTION : goal.returns-then-trap-eq-VIRTUAL_INSTRUCTION
returns-then-trap-eq-VIRTUAL_INSTRUCTION c = word_exit_is c.args.virt.now c.args.trap.now c.if-trap-eq-VIRTUAL_INSTRUCTION.true

pub returns : goal.returns
returns c =
    rw c.other_step.ensures (other_left c.args.virt.now c.args.trap.now (sym c.is_guest_page_code.ensures ∙ c.if-is_guest_page_code.false)
    (ne_eqb c.args.trap.now.cause VIRTUAL_INSTRUCTION c.if-trap-eq-VIRTUAL_INSTRUCTION.false))
