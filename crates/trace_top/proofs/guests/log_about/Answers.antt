use Rattle.std.proofs.Common.{◌≡◌, ◌∙◌, sym, arith}
use Rattle.run_log.specs.Log.{steps_between}
use Rattle.trace_top.proofs.Logged.{logs_nothing}
use Rattle.trace_top.proofs.guests.log_about.Goals as goal

pub returns-then-steps-eq0-clause-log : goal.returns-then-steps-eq0-clause-log
returns-then-steps-eq0-clause-log g c =
    let none : c.steps_between-steps.result ≡ 0 = grind (arith, c.if-steps-eq0.true) in
    logs_nothing c.args.asked.now.kinds _ c.args.asked.now.from g.O.Sink _ c.args.out.now (sym c.steps_between-steps.ensures ∙ none)
