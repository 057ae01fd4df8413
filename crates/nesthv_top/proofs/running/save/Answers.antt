use Rattle.std.proofs.Common.{◌≡◌, ◌+◌, Some, true, false, rules, ◌∙◌, subst, Err, sym}
use Rattle.nesthv_top.specs.declared.ends.RunEnd.TheVariants.{WriteFault}
use Rattle.guest_turns.specs.Hosted.{machine_at}
use Rattle.nesthv_top.specs.Performed.{HasSaved}
use Rattle.nesthv_top.specs.Plans.{AllRunAsWritten}
use Rattle.nesthv_top.specs.Runnings.{moves_for, CountsTurns}
use Rattle.nesthv_top.specs.Seen.{plan_seen}
use Rattle.nesthv_top.proofs.SavedMachines.{as_many_sources, put_saved, resumable, saved_one}
use Rattle.nesthv_top.proofs.PlannedRuns.{job_plan, job_ran, job_runs}
use Rattle.nesthv_top.proofs.running.save.Goals as goal

pub hosted-requires-clause-plan : goal.hosted-requires-clause-plan
hosted-requires-clause-plan g c = job_runs c.args.job _ _ (Some c.args.guest) c.requires.job c.requires.guest (c.as_slice.ensures ∙ c.turns.ensures.turns) c.spare.ensures.spare

pub can_be_saved-requires-clause-guest : goal.can_be_saved-requires-clause-guest
can_be_saved-requires-clause-guest g c =
    let retired = c.in_ok-host.host.retired in
    let ran = job_ran c.args.job _ _ (Some c.args.guest) c.in_ok-host.host (c.as_slice.ensures ∙ c.turns.ensures.turns) c.spare.ensures.spare c.in_ok-host.ensures.ran in
    rw (as_many_sources c.args.job retired c.in_ok-host.host.machines ran.machines) c.requires.guest

pub save-requires-clause-guest : goal.save-requires-clause-guest
save-requires-clause-guest g c =
    let retired = c.in_ok-host.host.retired in
    let ran = job_ran c.args.job _ _ (Some c.args.guest) c.in_ok-host.host (c.as_slice.ensures ∙ c.turns.ensures.turns) c.spare.ensures.spare c.in_ok-host.ensures.ran in
    rw (as_many_sources c.args.job retired c.in_ok-host.host.machines ran.machines) c.requires.guest

pub returns-clause-saved : goal.returns-clause-saved
returns-clause-saved g c =
    let retired = c.in_ok-host.host.retired in
    let ran = job_ran c.args.job _ _ (Some c.args.guest) c.in_ok-host.host (c.as_slice.ensures ∙ c.turns.ensures.turns) c.spare.ensures.spare c.in_ok-host.ensures.ran in
    let same = saved_one c.args.job retired c.in_ok-host.host.machines c.args.guest c.requires.guest ran.there ran.machines in
    record {
      out = record {
        bytes = put_saved g.O.Sink.stands_for c.args.out.now c.save.new.out true c.args.job c.args.guest (machine_at c.in_ok-host.host.machines c.args.guest) same c.in_ok-save.ensures.bytes;
        cause = search rules;
        count = c.save.ensures.count;
        stays = c.save.ensures.stays;
      };
      savable = resumable c.args.job c.args.guest (machine_at c.in_ok-host.host.machines c.args.guest) c.requires.job c.requires.guest same c.can_be_saved.ensures;
    }

pub returns-clause-counts : goal.returns-clause-counts
returns-clause-counts g c =
    let same = job_plan c.args.job _ _ (c.as_slice.ensures ∙ c.turns.ensures.turns) c.spare.ensures.spare in
    record {
      account = subst (λ plan. CountsTurns plan c.args.tally.now c.hosted.new.tally) same c.in_ok-host.ensures.counted.account;
      moved = subst (λ plan. c.hosted.new.moves ≡ c.args.moves.now + moves_for plan) same c.in_ok-host.ensures.counted.moved;
    }

pub returns-clause-machines : goal.returns-clause-machines
returns-clause-machines g c =
    subst (λ plan. AllRunAsWritten plan) (job_plan c.args.job _ _ (c.as_slice.ensures ∙ c.turns.ensures.turns) c.spare.ensures.spare) c.hosted.ensures.written

pub returns-in_err-save-clause-saved : goal.returns-in_err-save-clause-saved
returns-in_err-save-clause-saved g c =
    let failed : c.from_residual-in_err-save.result ≡ Err WriteFault = search rules in
    let retired = c.in_ok-host.host.retired in
    let ran = job_ran c.args.job _ _ (Some c.args.guest) c.in_ok-host.host (c.as_slice.ensures ∙ c.turns.ensures.turns) c.spare.ensures.spare c.in_ok-host.ensures.ran in
    let same = saved_one c.args.job retired c.in_ok-host.host.machines c.args.guest c.requires.guest ran.there ran.machines in
    subst (λ result. HasSaved g.O.Sink (plan_seen c.args.job) c.args.guest result c.args.out.now c.save.new.out) (sym failed) (record {
      out = record {
        bytes = put_saved g.O.Sink.stands_for c.args.out.now c.save.new.out false c.args.job c.args.guest (machine_at c.in_ok-host.host.machines c.args.guest) same c.in_err-save.ensures.bytes;
        cause = λ _. c.in_err-save.ensures.cause;
        count = c.save.ensures.count;
        stays = c.save.ensures.stays;
      };
      savable = tt;
    })

pub returns-in_err-save-clause-counts : goal.returns-in_err-save-clause-counts
returns-in_err-save-clause-counts g c =
    let failed : c.from_residual-in_err-save.result ≡ Err WriteFault = search rules in
    let same = job_plan c.args.job _ _ (c.as_slice.ensures ∙ c.turns.ensures.turns) c.spare.ensures.spare in
    rw failed (record {
      account = subst (λ plan. CountsTurns plan c.args.tally.now c.hosted.new.tally) same c.in_ok-host.ensures.counted.account;
      moved = subst (λ plan. c.hosted.new.moves ≡ c.args.moves.now + moves_for plan) same c.in_ok-host.ensures.counted.moved;
    })

pub returns-in_err-save-clause-machines : goal.returns-in_err-save-clause-machines
returns-in_err-save-clause-machines g c =
    subst (λ plan. AllRunAsWritten plan) (job_plan c.args.job _ _ (c.as_slice.ensures ∙ c.turns.ensures.turns) c.spare.ensures.spare) c.hosted.ensures.written

pub returns-in_err-host-clause-machines : goal.returns-in_err-host-clause-machines
returns-in_err-host-clause-machines g c =
    subst (λ plan. AllRunAsWritten plan) (job_plan c.args.job _ _ (c.as_slice.ensures ∙ c.turns.ensures.turns) c.spare.ensures.spare) c.hosted.ensures.written
