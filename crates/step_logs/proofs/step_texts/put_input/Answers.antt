use Rattle.std.proofs.Common.{◌∙◌, ap, sym, ◌∷◌, []}
use Rattle.run_log.specs.Log.{text_of_lines}
use Rattle.step_logs.proofs.Inputs.{input_told}
use Rattle.step_logs.proofs.step_texts.put_input.Goals as goal

pub returns-in-Some-clause-bytes : goal.returns-in-Some-clause-bytes
returns-in-Some-clause-bytes g c = λ s is reads after.
    rw (← input_told s c.args.before.now (g.R.TryRunner.machine c.args.runner.now) c.in-Some.input is after reads
    (rw c.inputs.ensures at c.if-inputs-before.true) c.in-Some.is)
    (rw (c.input_read.ensures, c.head.ensures) at c.put_line.ensures.bytes)
