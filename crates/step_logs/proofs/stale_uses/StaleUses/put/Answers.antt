use Rattle.std.proofs.Common.{◌∙◌, ap, subst, List, map}
use Rattle.std.specs.Prelude.{is_ok}
use Rattle.log_lines.specs.declared.lines.Line.{Line}
use Rattle.outside.specs.Pieces.{Puts}
use Rattle.run_log.specs.Log.{text_of_lines}
use Rattle.step_logs.specs.StaleUses.{line_of_stale}
use Rattle.step_logs.proofs.StaleLines.{lines_told}
use Rattle.step_logs.proofs.stale_uses.StaleUses.put.Goals as goal

pub returns-clause-bytes : goal.returns-clause-bytes
returns-clause-bytes g c = λ origin from s is last shows told.
    subst (λ (l : List Line). Puts g.O.Sink.stands_for c.args.out.now c.put_each.new.out (is_ok c.put_each.result) (text_of_lines l))
    (ap (map (line_of_stale c.args.before.now c.args.steps.now)) c.as_slice.ensures.value
    ∙ lines_told c.args.before.now c.args.steps.now c.args.self.now origin from s is last shows told) c.put_each.ensures.bytes
