use Rattle.std.proofs.Common.{◌∙◌, ap}
use Rattle.std.specs.Option.{option_to_list}
use Rattle.step_logs.proofs.Told.{no_trap_told, trap_told}
use Rattle.step_logs.proofs.step_texts.trap_line_of.Goals as goal

pub returns-in-Some : goal.returns-in-Some
returns-in-Some c = λ s is events same.
    trap_told s c.args.before.now c.args.csrs.now c.in-Some.event c.trap_line.result (rw c.head.ensures at c.trap_line.ensures) is same
    (events ∙ ap option_to_list c.in-Some.is)

pub returns-in-None : goal.returns-in-None
returns-in-None c = λ s is events same. no_trap_told s (events ∙ ap option_to_list c.in-None.is)
