use Rattle.log_lines.specs.declared.lines.Line.TheVariants as line
use Rattle.std.proofs.Common.{◌∙◌, ap}
use Rattle.arch_defs.specs.declared.registers.Virtual.{Virtual}
use Rattle.step_logs.proofs.Texts.{lines_then}
use Rattle.step_logs.proofs.Told.{calls_told}
use Rattle.step_logs.proofs.step_texts.put_calls.Goals as goal

pub returns-clause-bytes : goal.returns-clause-bytes
returns-clause-bytes g c = λ s is acts reads after.
    rw (calls_told s c.args.before.now c.args.act.now c.state.result.now.regs c.status.result c.time.result (g.R.TryRunner.machine c.args.runner.now)
    c.call_line-line.result (rw c.head-head.ensures at c.call_line-line.ensures) is acts (ap (λ (v : Virtual). v.regs) c.state.ensures) c.status.ensures
    c.time.ensures after)
    (lines_then g.O.Sink.stands_for _ _ _ _ _ _ c.in_ok-put_optional.ensures.bytes (c.put_console.ensures.bytes s is reads after))
