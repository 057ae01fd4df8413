use Rattle.std.proofs.Common.{◌∙◌, ap}
use Rattle.std.specs.Option.{option_to_list}
use Rattle.arch_defs.specs.declared.registers.Virtual.{Virtual}
use Rattle.machine_defs.specs.Machine.{Machine}
use Rattle.step_logs.proofs.Told.{no_step_told, step_told}
use Rattle.step_logs.proofs.step_texts.step_line_of.Goals as goal

pub returns-in-Some : goal.returns-in-Some
returns-in-Some g c = λ s is word own events after.
    step_told s c.args.before.now c.args.made.now.tried.word c.state.result.now.regs c.args.made.now.tried.own.read c.stored_by.result _ c.step_line.result
    (rw c.head.ensures at c.step_line.ensures) is word
    (ap (λ (v : Virtual). v.regs) c.state.ensures ∙ ap (λ (m : Machine). m.platform.virt.regs) after) own.read (c.stored_by.ensures s own after)
    (events ∙ ap option_to_list c.in-Some.is)

pub returns-in-None : goal.returns-in-None
returns-in-None g c = λ s is word own events after. no_step_told s (events ∙ ap option_to_list c.in-None.is)
