use Rattle.std.proofs.Common.{◌≡◌, rules}
use Rattle.std.specs.Prelude.{Err}
use Rattle.step_logs.specs.StaleUses.{line_of_stale}
use Rattle.step_logs.proofs.Texts.{each_stopped}
use Rattle.step_logs.proofs.stale_uses.put_each.Goals as goal

pub returns-in_err-put_line-clause-bytes : goal.returns-in_err-put_line-clause-bytes
returns-in_err-put_line-clause-bytes g c =
    let failed : c.from_residual.result ≡ Err c.in_err-put_line.field-0.0 = search rules in
    rw failed (each_stopped g.O.Sink.stands_for (line_of_stale c.args.before.now c.args.steps.now) c.args.out.now c.loop-i.out c.put_line.new.out c.args.stale.now c.loop-i.i
    _ (search rules) c.loop-i.invariant.put (rw c.line_of_stale.ensures at c.in_err-put_line.ensures.bytes))
