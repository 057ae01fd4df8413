use Rattle.std.proofs.Common.{◌∙◌, false, rules, ap, subst, ◌≡◌, Err}
use Rattle.nesthv_top.specs.declared.ends.RunEnd.TheVariants.{WriteFault}
use Rattle.outside.specs.Pieces.{Appends, Puts}
use Rattle.nesthv_top.specs.Plans.{report_of}
use Rattle.nesthv_top.specs.Seen.{plan_seen}
use Rattle.nesthv_top.specs.Texts.{verdict_line}
use Rattle.nesthv_top.proofs.Comparing.{compared}
use Rattle.nesthv_top.proofs.replaying.replay.Goals as goal

pub returns-clause-verdict : goal.returns-clause-verdict
returns-clause-verdict g c =
    compared c.args.stored.now c.new-compare.result c.run.new.out (report_of (plan_seen c.args.job)) c.verdict-verdict.result
    c.new-compare.ensures c.in_ok-run.ensures.out.bytes c.in_ok-run.ensures.out.stays c.verdict-verdict.ensures

pub returns-clause-out : goal.returns-clause-out
returns-clause-out g c =
    let found = compared c.args.stored.now c.new-compare.result c.run.new.out (report_of (plan_seen c.args.job)) c.verdict-verdict.result
    c.new-compare.ensures c.in_ok-run.ensures.out.bytes c.in_ok-run.ensures.out.stays c.verdict-verdict.ensures in
    record {
      bytes = subst (λ line. Appends g.O.Sink.stands_for c.args.out.now c.put.new.self line) (c.as_slice.ensures.value ∙ c.verdict_line.ensures ∙ ap verdict_line found)
          c.in_ok-put.ensures.bytes;
      cause = search rules;
      count = c.put.ensures.count;
      stays = c.put.ensures.stays;
    }

pub returns-in_err-put-clause-out : goal.returns-in_err-put-clause-out
returns-in_err-put-clause-out g c =
    let is : c.from_residual-in_err-put.result ≡ Err WriteFault = search rules in
    let found = compared c.args.stored.now c.new-compare.result c.run.new.out (report_of (plan_seen c.args.job)) c.verdict-verdict.result
    c.new-compare.ensures c.in_ok-run.ensures.out.bytes c.in_ok-run.ensures.out.stays c.verdict-verdict.ensures in
    rw is (record {
      bytes = subst (λ line. Puts g.O.Sink.stands_for c.args.out.now c.put.new.self false line) (c.as_slice.ensures.value ∙ c.verdict_line.ensures ∙ ap verdict_line found)
          c.in_err-put.ensures.bytes;
      cause = λ _. c.in_err-put.ensures.cause;
      count = c.put.ensures.count;
      stays = c.put.ensures.stays;
    })
