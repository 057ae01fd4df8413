use Rattle.std.proofs.Common.{arith, rules, ◌≡◌, ◌∙◌, ap, refl, sym, subst, List, [], ◌∷◌, ◌++◌, false}
use Rattle.std.specs.Prelude.{is_ok}
use Rattle.caching_steps.specs.Noting.{second_name}
use Rattle.caching_steps.specs.Remembering.{notes_of}
use Rattle.caching_steps.specs.declared.notes.Note.{Note}
use Rattle.machine_defs.specs.Machine.{Machine, Platform}
use Rattle.run_log.specs.Seen.{seen_from}
use Rattle.step_logs.specs.StaleUses.{ShowsUses}
use Rattle.step_logs.specs.declared.befores.Before.{Before}
use Rattle.log_writer.proofs.Making.{at_last, fewer_try, filled_try, now_running, second_none, second_try, step_made}
use Rattle.log_writer.proofs.Putting.{rest_none, rest_stopped, rest_then}
use Rattle.log_writer.proofs.StaleNotes.{note_none, note_then}
use Rattle.log_writer.proofs.steps.make_step.Goals as goal

pub loop-made-init : goal.loop-made-init
loop-made-init g c = record {
  filled = record { platform = refl; ready = refl };
  left = λ new ok puts. puts;
  noted = λ asked. refl;
  count = omega arith;
}

pub try_once-requires : goal.try_once-requires
try_once-requires g c =
    let filled = c.loop-made.invariant.filled in
    let same = ap (λ (p : Platform). p.steps) filled.platform in
    record {
      goes_on = record {
        running = now_running (g.R.TryRunner.machine c.args.runner.now) (g.R.TryRunner.machine c.loop-made.runner) filled c.requires.before.goes_on.running;
        early = omega (arith, same, c.requires.before.goes_on.early);
      };
    }

pub returns-in-Ok-clause-step : goal.returns-in-Ok-clause-step
returns-in-Ok-clause-step g c =
    let filled = c.loop-made.invariant.filled in
    let same = ap (λ (p : Platform). p.steps) filled.platform in
    record {
      own =
          step_made c.args.kinds.now c.args.before.now (g.R.TryRunner.machine c.args.runner.now) (g.R.TryRunner.machine c.loop-made.runner)
          (g.R.TryRunner.machine c.try_once.new.runner) c.in-Ok.made.tried c.requires.before.own c.requires.before.goes_on.running filled c.in-Ok.ensures.tried.0
          c.in-Ok.made.event c.in-Ok.ensures.tried.1;
      most = omega (arith, same, c.in-Ok.ensures.most);
    }

pub returns-in-Ok-clause-shown : goal.returns-in-Ok-clause-shown
returns-in-Ok-clause-shown g c = λ asked.
    let before = g.R.TryRunner.machine c.args.runner.now in
    let now = g.R.TryRunner.machine c.loop-made.runner in
    let after = g.R.TryRunner.machine c.try_once.new.runner in
    record {
      steps =
          c.in-Ok.ensures.steps
          ∙ sym (note_none before.platform.virt.csrs.hgatp c.args.before.now.number now after c.in-Ok.made.event c.loop-made.stale.steps c.in-Ok.ensures.tried.1)
          ∙ c.loop-made.invariant.noted asked;
      shown =
          subst (λ (m : Machine). ShowsUses m c.try_once.new.stale.shown)
          (at_last before now after c.in-Ok.made.event c.loop-made.invariant.filled c.in-Ok.ensures.tried.1) (c.in-Ok.ensures.shown asked);
    }

pub returns-in-Ok-clause-bytes : goal.returns-in-Ok-clause-bytes
returns-in-Ok-clause-bytes g c =
    let s = seen_from c.args.before.now.number (g.R.TryRunner.machine c.args.runner.now) in
    rest_none g.O.Sink.stands_for c.args.out.now c.loop-made.out _ _
    (second_none c.args.kinds.now.fills s (g.R.TryRunner.machine c.loop-made.runner) (g.R.TryRunner.machine c.try_once.new.runner) c.in-Ok.made.event
    c.in-Ok.ensures.tried.1) c.loop-made.invariant.left

pub returns-in_err-log_fill-in-Err-clause-bytes : goal.returns-in_err-log_fill-in-Err-clause-bytes
returns-in_err-log_fill-in-Err-clause-bytes g c =
    let s = seen_from c.args.before.now.number (g.R.TryRunner.machine c.args.runner.now) in
    let running = now_running (g.R.TryRunner.machine c.args.runner.now) (g.R.TryRunner.machine c.loop-made.runner) c.loop-made.invariant.filled c.requires.before.goes_on.running in
    let failed : is_ok c.from_residual.result ≡ false = search rules in
    rw failed (rest_stopped g.O.Sink.stands_for c.args.out.now c.loop-made.out c.log_fill.new.out _ _ _ _
    (second_try c.args.kinds.now.fills s (g.R.TryRunner.machine c.loop-made.runner) (g.R.TryRunner.machine c.try_once.new.runner) c.in-Err.entry
    c.in-Err.ensures.room running c.in-Err.ensures.tried)
    c.loop-made.invariant.left (c.in_err-log_fill-in-Err.ensures.bytes s c.requires.before.own))

pub loop-made-preserved : goal.loop-made-preserved
loop-made-preserved g c =
    let s = seen_from c.args.before.now.number (g.R.TryRunner.machine c.args.runner.now) in
    let running = now_running (g.R.TryRunner.machine c.args.runner.now) (g.R.TryRunner.machine c.loop-made.runner) c.loop-made.invariant.filled c.requires.before.goes_on.running in
    record {
      filled =
          filled_try (g.R.TryRunner.machine c.args.runner.now) (g.R.TryRunner.machine c.loop-made.runner) (g.R.TryRunner.machine c.try_once.new.runner) c.in-Err.entry
          c.loop-made.invariant.filled c.in-Err.ensures.room c.in-Err.ensures.tried;
      left =
          rest_then g.O.Sink.stands_for c.args.out.now c.loop-made.out c.log_fill.new.out _ _ _ _
          (second_try c.args.kinds.now.fills s (g.R.TryRunner.machine c.loop-made.runner) (g.R.TryRunner.machine c.try_once.new.runner) c.in-Err.entry
          c.in-Err.ensures.room running c.in-Err.ensures.tried) c.loop-made.invariant.left (c.in_ok-log_fill-in-Err.ensures.bytes s c.requires.before.own);
      noted = λ asked.
          let n = c.args.before.now.number in
          let hgatp = (g.R.TryRunner.machine c.args.runner.now).platform.virt.csrs.hgatp in
          note_then hgatp n (g.R.TryRunner.machine c.loop-made.runner) (g.R.TryRunner.machine c.try_once.new.runner) c.in-Err.entry c.loop-made.stale.steps
          c.log_fill.new.stale.steps c.in-Err.ensures.room running c.in-Err.ensures.tried
          (c.in_ok-log_fill-in-Err.ensures.noted asked
          ∙ ap (λ (l : List Note). l ++ notes_of n (second_name c.args.before.now.csrs.hgatp c.in-Err.entry ∷ [])) c.in-Err.ensures.steps
          ∙ ap (λ (b : Before). c.loop-made.stale.steps ++ notes_of n (second_name b.csrs.hgatp c.in-Err.entry ∷ [])) c.requires.before.own)
          ∙ c.loop-made.invariant.noted asked;
      count = omega (arith, c.loop-made.invariant.count, c.log_fill.ensures.count);
    }

pub loop-made-smaller : goal.loop-made-smaller
loop-made-smaller g c =
    fewer_try (g.R.TryRunner.machine c.loop-made.runner) (g.R.TryRunner.machine c.try_once.new.runner) c.in-Err.entry c.in-Err.ensures.room c.in-Err.ensures.tried
