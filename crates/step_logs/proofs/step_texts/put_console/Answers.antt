use Rattle.std.proofs.Common.{◌≡◌, rules}
use Rattle.std.specs.Prelude.{Err}
use Rattle.step_logs.proofs.Texts.{lines_stopped}
use Rattle.step_logs.proofs.Told.{bytes_told}
use Rattle.step_logs.proofs.step_texts.put_console.Goals as goal

pub returns-in_err-put_bytes-clause-bytes : goal.returns-in_err-put_bytes-clause-bytes
returns-in_err-put_bytes-clause-bytes g c = λ s is reads after.
    let failed : c.from_residual.result ≡ Err c.in_err-put_bytes.field-0.0 = search rules in
    rw failed (lines_stopped g.O.Sink.stands_for _ _ _ _
    (rw (
      c.head.ensures,
      bytes_told s c.args.before.now (g.R.TryRunner.machine c.args.runner.now) c.behind.result.now c.console.result.now is c.behind.ensures
          c.console.ensures after,
    ) at c.in_err-put_bytes.ensures.bytes))
