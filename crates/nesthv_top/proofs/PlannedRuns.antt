-- The plan of a job, as it is run.
use Rattle.std.proofs.Common.{◌≡◌, ◌∙◌, ℕ, ◌<◌, List, length, Option, ap, refl, sym, subst, arith}
use Rattle.std.specs.Prelude.{IfSome}
use Rattle.std.specs.List.{All}
use Rattle.std.proofs.lemmas.List.{length-map}
use Rattle.guest_turns.specs.Hosted.{Hosted}
use Rattle.run_config.specs.Configurations.{IsTurnWithin}
use Rattle.nesthv_top.specs.declared.ends.Job.{Job}
use Rattle.nesthv_top.specs.HostedRuns.{CanRun, HasRunPlan}
use Rattle.nesthv_top.specs.Plans.{name_of_source}
use Rattle.nesthv_top.specs.Seen.{plan_seen, plan_with, IsJob}

-- it has a source for each guest of its configuration
pub as_many_guests : (job : Job) → IsJob job → length job.sources.items ≡ length job.config.guests
as_many_guests job is =
    sym (length-map job.sources.items name_of_source) ∙ ap (λ names. length names) is.names ∙ length-map job.config.guests (λ guest. guest.name)

module _ (job : Job) (turns : List (ℕ × ℕ)) (spare : ℕ) where
  pub job_plan : turns ≡ job.config.turns → spare ≡ job.config.spare → plan_with job.sources.items turns spare ≡ plan_seen job
  job_plan same other = rw (same, other) refl

  -- it can be run
  pub job_runs : (kept : Option ℕ) → IsJob job → IfSome kept (λ g. g < length job.sources.items) → turns ≡ job.config.turns → spare ≡ job.config.spare
      → CanRun (plan_with job.sources.items turns spare) kept
  job_runs kept is inside same other = subst (λ plan. CanRun plan kept) (sym (job_plan same other)) (record {
    sources = record {
      some = omega (arith, is.limits.guests_some, as_many_guests job is);
      few = omega (arith, is.limits.guests_most, as_many_guests job is);
      each = is.sources;
    };
    spare = is.limits.spare_most;
    frames = omega (arith, is.frames, is.few);
    few = is.limits.turns_most;
    short = subst (λ n. All (IsTurnWithin n) job.config.turns) (sym (as_many_guests job is)) is.limits.each_turn;
    there = inside;
  })

  -- and a host that has run it has run the job's plan
  pub job_ran : (kept : Option ℕ) (host : Hosted) → turns ≡ job.config.turns → spare ≡ job.config.spare → HasRunPlan (plan_with job.sources.items turns spare) kept host → HasRunPlan (plan_seen job) kept host
  job_ran kept host same other ran = subst (λ plan. HasRunPlan plan kept host) (job_plan same other) ran
