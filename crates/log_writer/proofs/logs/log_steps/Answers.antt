use Rattle.std.proofs.Common.{arith, rules, ◌≡◌, ◌≢◌, ◌∙◌, ◌+◌, ◌-◌, ◌<◌, ap, sym, false}
use Rattle.std.specs.Prelude.{is_ok}
use Rattle.guest_settings.specs.declared.statuses.Status.TheVariants.{Running}
use Rattle.step_logs.specs.declared.befores.Before.{Before}
use Rattle.log_writer.proofs.LoggedSteps.{all_put, all_put_here, idle_counted_here, idle_put_here, passed, starts, step_front_here, step_logged, step_stopped_here}
use Rattle.log_writer.proofs.logs.log_steps.Goals as goal

pub loop-next-init : goal.loop-next-init
loop-next-init g c =
    starts g.O.Sink c.args.kinds.now c.args.from c.args.steps (g.R.TryRunner.machine c.args.runner.now) c.args.out.now c.new-counts.result
    c.new-stale.result.steps c.new-counts.ensures c.new-stale.ensures

pub returns-then-number-last-clause-bytes : goal.returns-then-number-last-clause-bytes
returns-then-number-last-clause-bytes g c = all_put_here c.loop-next.invariant c.pass_plain.ensures (omega (arith, c.if-number-last.true))

-- where the machine does not go on
pub returns-then-ne-clause-counted : goal.returns-then-ne-clause-counted
returns-then-ne-clause-counted g c =
    let idle : c.status.result ≢ Running = search rules in
    idle_counted_here c.loop-next.invariant c.pass_plain.ensures (λ going. idle (c.status.ensures ∙ going))

pub returns-then-ne-clause-bytes : goal.returns-then-ne-clause-bytes
returns-then-ne-clause-bytes g c =
    let idle : c.status.result ≢ Running = search rules in
    idle_put_here c.loop-next.invariant c.pass_plain.ensures (λ going. idle (c.status.ensures ∙ going))

-- where its step breaks off, or what follows it
pub returns-in_err-event-clause-bytes : goal.returns-in_err-event-clause-bytes
returns-in_err-event-clause-bytes g c =
    let going : c.status.result ≡ Running = search rules in
    let failed : is_ok c.from_residual.result ≡ false = search rules in
    rw failed (step_stopped_here c.loop-next.invariant c.pass_plain.ensures (omega (arith, c.loop-next.invariant.within, c.pass_plain.ensures.within, c.if-number-last.false))
    (sym c.status.ensures ∙ going) c.of-before.result c.of-before.ensures c.log_step.new.out c.in_err-event.ensures.bytes)

pub returns-in_err-count_step-clause-bytes : goal.returns-in_err-count_step-clause-bytes
returns-in_err-count_step-clause-bytes g c =
    let going : c.status.result ≡ Running = search rules in
    let failed : is_ok c.from_residual-in_err-count_step.result ≡ false = search rules in
    rw failed (step_front_here c.loop-next.invariant c.pass_plain.ensures (omega (arith, c.loop-next.invariant.within, c.pass_plain.ensures.within, c.if-number-last.false))
    (sym c.status.ensures ∙ going) c.of-before.result c.of-before.ensures c.log_step.new.out c.in_ok-event.ensures.bytes)

pub returns-in_err-renew_if-clause-bytes : goal.returns-in_err-renew_if-clause-bytes
returns-in_err-renew_if-clause-bytes g c =
    let going : c.status.result ≡ Running = search rules in
    let failed : is_ok c.from_residual-in_err-renew_if.result ≡ false = search rules in
    rw failed (step_front_here c.loop-next.invariant c.pass_plain.ensures (omega (arith, c.loop-next.invariant.within, c.pass_plain.ensures.within, c.if-number-last.false))
    (sym c.status.ensures ∙ going) c.of-before.result c.of-before.ensures c.log_step.new.out c.in_ok-event.ensures.bytes)

pub loop-next-preserved : goal.loop-next-preserved
loop-next-preserved g c =
    let number = c.loop-next.next + c.pass_plain.result in
    let here = passed g.O.Sink c.args.kinds.now c.args.from c.args.steps (g.R.TryRunner.machine c.args.runner.now) c.args.out.now c.loop-next.next c.pass_plain.result
    (g.R.TryRunner.machine c.loop-next.runner) (g.R.TryRunner.machine c.pass_plain.new.runner) c.loop-next.counts c.loop-next.stale.steps c.loop-next.out c.loop-next.invariant
    c.pass_plain.ensures in
    let going : c.status.result ≡ Running = search rules in
    let before : number < c.args.from + c.args.steps = omega (arith, here.within, c.if-number-last.false) in
    let kept = ap (λ (b : Before). b.number) c.of-before.ensures in
    step_logged g.O.Sink c.args.kinds.now c.args.from c.args.steps (g.R.TryRunner.machine c.args.runner.now) c.args.out.now number (g.R.TryRunner.machine c.pass_plain.new.runner) c.loop-next.counts
    c.loop-next.stale.steps c.loop-next.out here
    before (sym c.status.ensures ∙ going) c.log_step.new.out (g.R.TryRunner.machine c.log_step.new.runner) c.count_step.new.counts c.log_step.new.stale.steps
    c.renew_if.new.self.steps c.of-before.result c.in_ok-event.event (rw kept at c.in_ok-event.ensures.bytes) (rw kept at c.in_ok-event.ensures.made)
    c.of-before.ensures c.log_step.ensures.count
    (λ origin. c.in_ok-count_step.ensures origin c.args.from (number - c.args.from) (omega (arith, c.requires.few, before)))
    (rw kept at c.in_ok-event.ensures.noted)
    (λ origin. c.in_ok-renew_if.ensures origin c.args.from (number + 1))

pub returns-clause-bytes : goal.returns-clause-bytes
returns-clause-bytes g c =
    all_put g.O.Sink c.args.kinds.now c.args.from c.args.steps (g.R.TryRunner.machine c.args.runner.now) c.args.out.now c.loop-next.next (g.R.TryRunner.machine c.loop-next.runner)
    c.loop-next.counts c.loop-next.stale.steps c.loop-next.out c.loop-next.invariant (omega (arith, c.loop-next-test.false))
