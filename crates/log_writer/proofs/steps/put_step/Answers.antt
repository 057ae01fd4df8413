use Rattle.std.proofs.Common.{◌≡◌, refl, rules, true, false}
use Rattle.std.specs.Prelude.{is_ok}
use Rattle.run_log.specs.Log.{if_asked}
use Rattle.run_log.specs.Stale.{stale_lines}
use Rattle.step_logs.proofs.Texts.{lines_stopped, lines_then}
use Rattle.step_logs.specs.StepTexts.{lines_from_steps}
use Rattle.log_writer.specs.Steps.{first_lines, lines_from_stale}
use Rattle.log_writer.proofs.steps.put_step.Goals as goal

pub returns-in_err-put_first-clause-bytes : goal.returns-in_err-put_first-clause-bytes
returns-in_err-put_first-clause-bytes g c = λ origin from s is running shown told.
    let failed : is_ok c.from_residual.result ≡ false = search rules in
    rw failed (lines_stopped g.O.Sink.stands_for c.args.out.now c.put_first.new.out (first_lines c.args.kinds.now.fills s)
    (lines_from_stale c.args.kinds.now origin from s)
    (c.in_err-put_first.ensures.bytes c.args.kinds.now s (g.R.TryRunner.machine c.args.runner.now) is refl running))

pub returns-in_err-put_if-clause-bytes : goal.returns-in_err-put_if-clause-bytes
returns-in_err-put_if-clause-bytes g c = λ origin from s is running shown told.
    let failed : is_ok c.from_residual-in_err-put_if.result ≡ false = search rules in
    rw failed (lines_then g.O.Sink.stands_for c.args.out.now c.put_first.new.out c.put_if.new.out false (first_lines c.args.kinds.now.fills s)
    (lines_from_stale c.args.kinds.now origin from s)
    (c.in_ok-put_first.ensures.bytes c.args.kinds.now s (g.R.TryRunner.machine c.args.runner.now) is refl running)
    (lines_stopped g.O.Sink.stands_for c.put_first.new.out c.put_if.new.out (if_asked c.args.kinds.now.stale (stale_lines origin from s))
    (lines_from_steps c.args.kinds.now s)
    (c.in_err-put_if.ensures.bytes origin from s (λ asked. record { before = is.before; last = is.last; uses = shown asked }) told)))

pub returns-in_err-put_from_steps-clause-bytes : goal.returns-in_err-put_from_steps-clause-bytes
returns-in_err-put_from_steps-clause-bytes g c = λ origin from s is running shown told.
    let failed : is_ok c.from_residual-in_err-put_from_steps.result ≡ false = search rules in
    rw failed (lines_then g.O.Sink.stands_for c.args.out.now c.put_first.new.out c.put_from_steps.new.out false (first_lines c.args.kinds.now.fills s)
    (lines_from_stale c.args.kinds.now origin from s)
    (c.in_ok-put_first.ensures.bytes c.args.kinds.now s (g.R.TryRunner.machine c.args.runner.now) is refl running)
    (lines_then g.O.Sink.stands_for c.put_first.new.out c.put_if.new.out c.put_from_steps.new.out false (if_asked c.args.kinds.now.stale (stale_lines origin from s))
    (lines_from_steps c.args.kinds.now s)
    (c.in_ok-put_if.ensures.bytes origin from s (λ asked. record { before = is.before; last = is.last; uses = shown asked }) told)
    (c.in_err-put_from_steps.ensures.bytes s is)))

pub returns-clause-bytes : goal.returns-clause-bytes
returns-clause-bytes g c = λ origin from s is running shown told.
    lines_then g.O.Sink.stands_for c.args.out.now c.put_first.new.out c.put_from_steps.new.out true (first_lines c.args.kinds.now.fills s)
    (lines_from_stale c.args.kinds.now origin from s)
    (c.in_ok-put_first.ensures.bytes c.args.kinds.now s (g.R.TryRunner.machine c.args.runner.now) is refl running)
    (lines_then g.O.Sink.stands_for c.put_first.new.out c.put_if.new.out c.put_from_steps.new.out true (if_asked c.args.kinds.now.stale (stale_lines origin from s))
    (lines_from_steps c.args.kinds.now s)
    (c.in_ok-put_if.ensures.bytes origin from s (λ asked. record { before = is.before; last = is.last; uses = shown asked }) told)
    (c.in_ok-put_from_steps.ensures.bytes s is))
