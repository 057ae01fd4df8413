-- The plan that the program's own values stand for.
use Rattle.std.specs.List.{All}
use Rattle.arch_defs.specs.Frames.{most_frames}
use Rattle.std.specs.Prelude.{◌≡◌, ◌≤◌, ℕ, List, None, Ok, map}
use Rattle.command_line.specs.Commands.{FileCommand}
use Rattle.frame_split.specs.Shares.{frames_with}
use Rattle.guest_turns.specs.declared.sources.Source.{Source}
use Rattle.guest_turns.specs.Sources.{IsBootableSource, needs_of_sources}
use Rattle.run_config.specs.declared.guests.GuestSettings.{GuestSettings}
use Rattle.run_config.specs.Configurations.{Configuration, IsWithinLimits}
use Rattle.nesthv_top.specs.declared.ends.Job.{Job}
use Rattle.nesthv_top.specs.declared.ends.Loaded.{Loaded}
use Rattle.nesthv_top.specs.declared.ends.RunPlan.{RunPlan}
use Rattle.nesthv_top.specs.Plans.{Plan, name_of_source}
use Rattle.nesthv_top.specs.Reads.{absent_guest_fault}

abbrev pub plan_with : List Source → List (ℕ × ℕ) → ℕ → Plan
plan_with sources turns spare = record { sources = sources; turns = turns; spare = spare }

abbrev pub as_plan : RunPlan → Plan
as_plan plan = plan_with plan.sources.items plan.turns.now plan.spare

abbrev pub plan_seen : Job → Plan
plan_seen job = plan_with job.sources.items job.config.turns job.config.spare

abbrev pub loaded_plan : Loaded → Plan
loaded_plan loaded = plan_seen loaded.job

-- the names of guests, and those that a configuration says
abbrev pub names_of_sources : List Source → List (List ℕ)
names_of_sources sources = map name_of_source sources

abbrev pub names_in : List GuestSettings → List (List ℕ)
names_in guests = map (λ guest. guest.name) guests

-- a job that an accepted configuration gives
pub record IsJob (job : Job) : Type 0 where
  pub limits : IsWithinLimits job.config
  pub names : names_of_sources job.sources.items ≡ names_in job.config.guests
  pub sources : All IsBootableSource job.sources.items
  pub frames : job.frames ≡ frames_with (needs_of_sources job.sources.items) job.config.spare
  pub few : job.frames ≤ most_frames

-- a configuration has the guest that a command saves, if it saves one
abbrev pub HasGuest : FileCommand → Configuration → Type 0
HasGuest command c = absent_guest_fault command (Ok c) ≡ None
