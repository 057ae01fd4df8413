use Rattle.std.proofs.Common.{◌≡◌, get_or, rules}
use Rattle.std.specs.Prelude.{Err}
use Rattle.log_lines.specs.declared.lines.Line.TheVariants as line
use Rattle.step_logs.proofs.Texts.{each_stopped}
use Rattle.step_logs.proofs.step_texts.put_bytes.Goals as goal

pub returns-in_err-put_line-clause-bytes : goal.returns-in_err-put_line-clause-bytes
returns-in_err-put_line-clause-bytes g c =
    let failed : c.from_residual.result ≡ Err c.in_err-put_line.field-0.0 = search rules in
    let told : c.byte_put.result ≡ line.Put c.args.head.now (get_or c.args.bytes.now c.loop-i.i 0) = search rules in
    rw failed (each_stopped g.O.Sink.stands_for (λ byte. line.Put c.args.head.now byte) c.args.out.now c.loop-i.out c.put_line.new.out c.args.bytes.now c.loop-i.i 0
    (search rules) c.loop-i.invariant.put (rw told at c.in_err-put_line.ensures.bytes))
