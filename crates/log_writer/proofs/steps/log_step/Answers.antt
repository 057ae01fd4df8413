use Rattle.std.proofs.Common.{◌≡◌, ◌∙◌, ap, sym, subst, rules, List, ◌++◌, true, false}
use Rattle.std.specs.Prelude.{is_ok}
use Rattle.caching_steps.specs.Remembering.{found_notes}
use Rattle.caching_steps.specs.declared.notes.Note.{Note}
use Rattle.log_lines.specs.declared.lines.Line.{Line}
use Rattle.outside.specs.Pieces.{Puts}
use Rattle.run_log.specs.Fills.{next_filled}
use Rattle.run_log.specs.Log.{text_of_lines}
use Rattle.run_log.specs.Seen.{seen_from}
use Rattle.step_logs.specs.StaleUses.{TellUses}
use Rattle.step_logs.proofs.Texts.{lines_stopped, lines_then}
use Rattle.log_writer.specs.Steps.{lines_from_first, second_lines}
use Rattle.log_writer.proofs.Making.{step_lines_are}
use Rattle.log_writer.proofs.steps.log_step.Goals as goal

pub returns-in_err-made-clause-bytes : goal.returns-in_err-made-clause-bytes
returns-in_err-made-clause-bytes g c = λ origin from told.
    let s = seen_from c.args.before.now.number (g.R.TryRunner.machine c.args.runner.now) in
    let failed : is_ok c.from_residual.result ≡ false = search rules in
    rw failed (subst (λ (l : List Line). Puts g.O.Sink.stands_for c.args.out.now c.make_step.new.out false (text_of_lines l))
    (sym (step_lines_are c.args.kinds.now origin from s)) (lines_stopped g.O.Sink.stands_for _ _ _ _ c.in_err-made.ensures.bytes))

pub returns-in_err-put_step-clause-bytes : goal.returns-in_err-put_step-clause-bytes
returns-in_err-put_step-clause-bytes g c = λ origin from told.
    let m = g.R.TryRunner.machine c.args.runner.now in
    let s = seen_from c.args.before.now.number m in
    let failed : is_ok c.from_residual-in_err-put_step.result ≡ false = search rules in
    let made = c.in_ok-made.ensures.step in
    rw failed (subst (λ (l : List Line). Puts g.O.Sink.stands_for c.args.out.now c.put_step.new.out false (text_of_lines l))
    (sym (step_lines_are c.args.kinds.now origin from s))
    (lines_then g.O.Sink.stands_for c.args.out.now c.make_step.new.out c.put_step.new.out false (second_lines c.args.kinds.now.fills s (next_filled m))
    (lines_from_first c.args.kinds.now origin from s) c.in_ok-made.ensures.bytes
    (c.in_err-put_step.ensures.bytes origin from s made.own c.requires.before.goes_on.running (λ asked. (c.in_ok-made.ensures.shown asked).shown)
    (λ asked. subst (TellUses origin from s) (sym (c.in_ok-made.ensures.shown asked).steps) (told asked)))))

pub returns-clause-made : goal.returns-clause-made
returns-clause-made g c = let made = c.in_ok-made.ensures.step in
    record { events = made.own.events; after = made.own.after; most = made.most }

pub returns-clause-noted : goal.returns-clause-noted
returns-clause-noted g c = λ asked.
    let m = g.R.TryRunner.machine c.args.runner.now in
    let n = c.args.before.now.number in
    let made = c.in_ok-made.ensures.step in
    let shown = c.in_ok-made.ensures.shown asked in
    c.in_ok-put_step.ensures.noted (seen_from n m) asked (record { before = made.own.before; last = made.own.last; uses = shown.shown })
    c.requires.before.goes_on.running made.own.events
    ∙ ap (λ (l : List Note). l ++ found_notes n m) shown.steps

pub returns-clause-bytes : goal.returns-clause-bytes
returns-clause-bytes g c = λ origin from told.
    let m = g.R.TryRunner.machine c.args.runner.now in
    let s = seen_from c.args.before.now.number m in
    let made = c.in_ok-made.ensures.step in
    subst (λ (l : List Line). Puts g.O.Sink.stands_for c.args.out.now c.put_step.new.out true (text_of_lines l))
    (sym (step_lines_are c.args.kinds.now origin from s))
    (lines_then g.O.Sink.stands_for c.args.out.now c.make_step.new.out c.put_step.new.out true (second_lines c.args.kinds.now.fills s (next_filled m))
    (lines_from_first c.args.kinds.now origin from s) c.in_ok-made.ensures.bytes
    (c.in_ok-put_step.ensures.bytes origin from s made.own c.requires.before.goes_on.running (λ asked. (c.in_ok-made.ensures.shown asked).shown)
    (λ asked. subst (TellUses origin from s) (sym (c.in_ok-made.ensures.shown asked).steps) (told asked))))
