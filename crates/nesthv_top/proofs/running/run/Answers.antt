use Rattle.std.proofs.Common.{◌≡◌, ◌+◌, None, true, false, rules, ◌∙◌, subst, Err, sym}
use Rattle.nesthv_top.specs.declared.ends.RunEnd.TheVariants.{WriteFault}
use Rattle.nesthv_top.specs.Plans.{AllRunAsWritten, report_of}
use Rattle.nesthv_top.specs.Runnings.{moves_for, CountsTurns}
use Rattle.nesthv_top.specs.Seen.{plan_seen}
use Rattle.nesthv_top.specs.Written.{Writes}
use Rattle.nesthv_top.proofs.Reporting.{as_many, put_is}
use Rattle.nesthv_top.proofs.PlannedRuns.{job_plan, job_ran, job_runs}
use Rattle.nesthv_top.proofs.running.run.Goals as goal

pub hosted-requires-clause-plan : goal.hosted-requires-clause-plan
hosted-requires-clause-plan g c = job_runs c.args.job _ _ None c.requires.job tt (c.as_slice.ensures ∙ c.turns.ensures.turns) c.spare.ensures.spare

pub put_sections-requires-clause-count : goal.put_sections-requires-clause-count
put_sections-requires-clause-count g c =
    let retired = c.in_ok-host.host.retired in
    let ran = job_ran c.args.job _ _ None c.in_ok-host.host (c.as_slice.ensures ∙ c.turns.ensures.turns) c.spare.ensures.spare c.in_ok-host.ensures.ran in
    rw c.guests.ensures.guests (as_many c.args.job retired c.in_ok-host.host.machines c.requires.job.names ran.machines)

pub returns-clause-out : goal.returns-clause-out
returns-clause-out g c =
    let retired = c.in_ok-host.host.retired in
    let ran = job_ran c.args.job _ _ None c.in_ok-host.host (c.as_slice.ensures ∙ c.turns.ensures.turns) c.spare.ensures.spare c.in_ok-host.ensures.ran in
    record {
      bytes = put_is g.O.Sink.stands_for c.args.out.now c.put_sections.new.out true c.args.job c.guests.result.now retired c.in_ok-host.host.machines
          c.requires.job.names c.guests.ensures.guests ran.machines c.in_ok-put_sections.ensures.bytes;
      cause = search rules;
      count = c.put_sections.ensures.count;
      stays = c.put_sections.ensures.stays;
    }

pub returns-clause-counts : goal.returns-clause-counts
returns-clause-counts g c =
    let same = job_plan c.args.job _ _ (c.as_slice.ensures ∙ c.turns.ensures.turns) c.spare.ensures.spare in
    record {
      account = subst (λ plan. CountsTurns plan c.args.tally.now c.hosted.new.tally) same c.in_ok-host.ensures.counted.account;
      moved = subst (λ plan. c.hosted.new.moves ≡ c.args.moves.now + moves_for plan) same c.in_ok-host.ensures.counted.moved;
    }

pub returns-clause-machines : goal.returns-clause-machines
returns-clause-machines g c =
    subst (λ plan. AllRunAsWritten plan) (job_plan c.args.job _ _ (c.as_slice.ensures ∙ c.turns.ensures.turns) c.spare.ensures.spare) c.hosted.ensures.written

pub returns-in_err-put_sections-clause-out : goal.returns-in_err-put_sections-clause-out
returns-in_err-put_sections-clause-out g c =
    let failed : c.from_residual-in_err-put_sections.result ≡ Err WriteFault = search rules in
    let retired = c.in_ok-host.host.retired in
    let ran = job_ran c.args.job _ _ None c.in_ok-host.host (c.as_slice.ensures ∙ c.turns.ensures.turns) c.spare.ensures.spare c.in_ok-host.ensures.ran in
    subst (λ result. Writes g.O.Sink result c.args.out.now c.put_sections.new.out (report_of (plan_seen c.args.job))) (sym failed) (record {
      bytes = put_is g.O.Sink.stands_for c.args.out.now c.put_sections.new.out false c.args.job c.guests.result.now retired c.in_ok-host.host.machines
          c.requires.job.names c.guests.ensures.guests ran.machines c.in_err-put_sections.ensures.bytes;
      cause = λ _. c.in_err-put_sections.ensures.cause;
      count = c.put_sections.ensures.count;
      stays = c.put_sections.ensures.stays;
    })

pub returns-in_err-put_sections-clause-counts : goal.returns-in_err-put_sections-clause-counts
returns-in_err-put_sections-clause-counts g c =
    let failed : c.from_residual-in_err-put_sections.result ≡ Err WriteFault = search rules in
    let same = job_plan c.args.job _ _ (c.as_slice.ensures ∙ c.turns.ensures.turns) c.spare.ensures.spare in
    rw failed (record {
      account = subst (λ plan. CountsTurns plan c.args.tally.now c.hosted.new.tally) same c.in_ok-host.ensures.counted.account;
      moved = subst (λ plan. c.hosted.new.moves ≡ c.args.moves.now + moves_for plan) same c.in_ok-host.ensures.counted.moved;
    })

pub returns-in_err-put_sections-clause-machines : goal.returns-in_err-put_sections-clause-machines
returns-in_err-put_sections-clause-machines g c =
    subst (λ plan. AllRunAsWritten plan) (job_plan c.args.job _ _ (c.as_slice.ensures ∙ c.turns.ensures.turns) c.spare.ensures.spare) c.hosted.ensures.written

pub returns-in_err-host-clause-machines : goal.returns-in_err-host-clause-machines
returns-in_err-host-clause-machines g c =
    subst (λ plan. AllRunAsWritten plan) (job_plan c.args.job _ _ (c.as_slice.ensures ∙ c.turns.ensures.turns) c.spare.ensures.spare) c.hosted.ensures.written
