-- What a command does with the files: the guests that it runs, their turns, and the report.
use Rattle.std.specs.Prelude.{ℕ, ◌≡◌, ◌+◌, ◌<◌, ◌≤◌, ◌^◌, List, [], ◌∷◌, ◌++◌, Option, Some, None, Result, Ok, Err, get_or, length, map, sum_by}
use Rattle.command_line.specs.Commands.{Command, FileCommand, OnFiles, Run, Replay, Check, Save, Work}
use Rattle.frame_split.specs.Shares.{frames_with}
use Rattle.guest_save.specs.Laws.{FirstFreshSince, UsesFreshSince}
use Rattle.guest_save.specs.Savable.{IsSavable}
use Rattle.guest_turns.specs.Hosted.{machine_at}
use Rattle.guest_turns.specs.declared.sources.Source.{Source}
use Rattle.guest_turns.specs.declared.sources.Source.TheVariants.{Fresh, Kept}
use Rattle.guest_turns.specs.Sources.{machine_of_source, machines_of_sources, needs_of_sources}
use Rattle.guest_turns.specs.TurnLists.{entries_for, own_events, own_steps}
use Rattle.machine_defs.specs.declared.events.Event.{Event}
use Rattle.machine_defs.specs.Fills.{missing_entry, ready}
use Rattle.machine_defs.specs.FreeMachines.{IsArchitectural}
use Rattle.machine_defs.specs.Freshness.{FirstFresh, UsesFresh}
use Rattle.machine_defs.specs.Machine.{Machine, start}
use Rattle.machine_defs.specs.Report.{section_of}
use Rattle.machine_defs.specs.Runs.{run}
use Rattle.outside.specs.Files.{Files}
use Rattle.run_config.specs.declared.faults.ConfigFault.{ConfigFault}
use Rattle.run_config.specs.Accept.{accept}
use Rattle.run_config.specs.Configurations.{Configuration}
use Rattle.turn_plan.specs.Turns.{rounds_of}
use Rattle.work_images.specs.Guests as generated
use Rattle.nesthv_top.specs.Contents.{config_of, sources_of}
use Rattle.nesthv_top.specs.Reads.{file_steps, steps_for}
use Rattle.nesthv_top.specs.Steps.{fault_in}

-- where the guests come from, their turns, and how many spare blocks there are beside those of the guests.
-- The report speaks of the guests and the turns alone
pub record Plan : Type 0 where
  pub sources : List Source
  pub turns : List (ℕ × ℕ)
  pub spare : ℕ

-- the frames of machine memory that it needs, 512 for each spare block
abbrev pub plan_frames : Plan → ℕ
plan_frames plan = frames_with (needs_of_sources plan.sources) plan.spare

-- the plan of a configuration
abbrev pub plan_by : Files → Configuration → Plan
plan_by files c = record { sources = sources_of files c.guests; turns = c.turns; spare = c.spare }

-- the same of a configuration that is accepted, unless a step found a fault
abbrev pub plan_if : Files → Option ConfigFault → Result Configuration ConfigFault → Option Plan
plan_if files None (Ok c) = Some (plan_by files c)
plan_if files None (Err found) = None
plan_if files (Some found) accepted = None

-- the plan of a command on files, where no step finds a fault
unfoldable pub planned : Files → FileCommand → Option Plan
planned files command = plan_if files (fault_in (file_steps files command)) (accept (config_of files command))

-- the plan of a seed and a size: the four guests that they give, and as many rounds as each has commands, of
-- 1,000 steps for each guest (own)
abbrev pub work_plan : ℕ → ℕ → Plan
work_plan seed size = record {
  sources = map Fresh (generated.guests seed size);
  turns = rounds_of 4 1000 size;
  spare = 0;
}

-- the plan of a command, and the first fault of its steps
abbrev pub plan_of : Files → Option Command → Option Plan
plan_of files (Some (OnFiles command)) = planned files command
plan_of files (Some (Work seed size)) = Some (work_plan seed size)
plan_of files None = None

abbrev pub command_fault : Files → Option Command → Option ConfigFault
command_fault files command = fault_in (steps_for files command)

-- the plan that a command runs: a check runs none
abbrev pub run_of : Files → Option Command → Option Plan
run_of files (Some (OnFiles (Run config))) = plan_of files (Some (OnFiles (Run config)))
run_of files (Some (OnFiles (Replay config report))) = plan_of files (Some (OnFiles (Replay config report)))
run_of files (Some (OnFiles (Check config))) = None
run_of files (Some (OnFiles (Save config guest))) = plan_of files (Some (OnFiles (Save config guest)))
run_of files (Some (Work seed size)) = plan_of files (Some (Work seed size))
run_of files None = None

-- the name of a guest, whose saved machine has none
abbrev pub name_of_source : Source → List ℕ
name_of_source (Fresh spec) = spec.name
name_of_source (Kept name saved) = name

-- the names of a plan's guests, and the lone machines that they go on from
abbrev pub plan_names : Plan → List (List ℕ)
plan_names plan = map name_of_source plan.sources

abbrev pub machines_of : Plan → List Machine
machines_of plan = machines_of_sources plan.sources

-- the section of a machine after n steps
abbrev pub section_from : List ℕ → Machine → ℕ → List ℕ
section_from name m n = section_of name (run m n)

-- the sections of machines with these names, in order, the first of which has this number: each after the
-- steps of its own turns
unfoldable pub sections : ℕ → List (List ℕ) → List Machine → List (ℕ × ℕ) → List ℕ
sections first [] machines turns = []
sections first (name ∷ names) [] turns = []
sections first (name ∷ names) (m ∷ machines) turns =
    section_from name m (own_steps first turns) ++ sections (first + 1) names machines turns

-- the report of a plan
unfoldable pub report_of : Plan → List ℕ
report_of plan = sections 0 (plan_names plan) (machines_of plan) plan.turns

-- the events of the runs of the guests' lone machines, one guest after another
unfoldable pub events_of : Plan → List Event
events_of plan = own_events plan.turns (machines_of plan)

-- the steps of all turns of a plan, if there is one
abbrev pub turn_steps : List (ℕ × ℕ) → ℕ
turn_steps turns = sum_by (λ turn. turn.1) turns

abbrev pub steps_of : Option Plan → ℕ
steps_of (Some plan) = turn_steps plan.turns
steps_of None = 0

-- at most how many entries of the hart they take: the sum of the turns' bounds
abbrev pub plan_entries : Plan → ℕ
plan_entries plan = entries_for (machines_of plan) plan.turns

abbrev pub planned_entries : Option Plan → ℕ
planned_entries (Some plan) = plan_entries plan
planned_entries None = 0

-- each cached translation of the second stage that the next step may use is fresh, of a guest that goes on
-- from a saved machine where this is a state of a run that began without any
abbrev pub UsesFreshFrom : Source → ℕ → Type 0
UsesFreshFrom (Fresh spec) n = UsesFresh (start spec) n
UsesFreshFrom (Kept name saved) n = UsesFreshSince saved.machine n

-- and so is each of the first stage
abbrev pub FirstFreshFrom : Source → ℕ → Type 0
FirstFreshFrom (Fresh spec) n = FirstFresh (start spec) n
FirstFreshFrom (Kept name saved) n = FirstFreshSince saved.machine n

-- after n steps of its run a guest's machine lacks no cached translation for its next step, once this has
-- made its fills, however small and however stale its spaces are: no step is put off for good. The run so far
-- is one of the written architecture. And what the next step may use is fresh, of both stages: it is stale at
-- most until the fence that names it
pub record RunsAsWritten (source : Source) (n : ℕ) : Type 0 where
  pub fills : missing_entry (ready (run (machine_of_source source) n)) ≡ None
  pub architectural : IsArchitectural (machine_of_source source) n
  pub fresh : UsesFreshFrom source n
  pub first : FirstFreshFrom source n

-- so does each guest of a plan, after each number of steps up to those of its section
abbrev pub AllRunAsWritten : Plan → Type 0
AllRunAsWritten plan = (i n : ℕ) (d : Source) → i < length plan.sources → n ≤ own_steps i plan.turns
    → RunsAsWritten (get_or plan.sources i d) n

-- the machine of the guest of this number after its turns
abbrev pub machine_after : Plan → ℕ → Machine
machine_after plan guest = run (machine_at (machines_of plan) guest) (own_steps guest plan.turns)

-- it can be saved, unless it has made too many steps
unfoldable pub IsResumable : Plan → ℕ → Type 0
IsResumable plan guest =
    (machine_after plan guest).platform.steps ≤ 2 ^ 60 → IsSavable (machine_after plan guest)
