-- The machine of a guest that is saved.
use Rattle.std.specs.Borrow.{Bor}
use Rattle.std.proofs.Common.{◌≡◌, ◌∙◌, ℕ, ◌+◌, ◌<◌, ◌≤◌, ◌^◌, Bool, true, false, List, None, length, get_or, nat_le, refl, ap, sym, subst, arith}
use Rattle.command_line.specs.Commands.{OnFiles}
use Rattle.command_line.specs.declared.commands.FileRequest.{FileRequest}
use Rattle.command_line.specs.declared.commands.FileRequest.TheVariants as file_request
use Rattle.command_line.specs.Seen.{file_command_seen}
use Rattle.run_config.specs.Faults as fault
use Rattle.run_config.specs.Tests.{unless}
use Rattle.std.proofs.lemmas.List.{get_or-map, length-map}
use Rattle.guest_save.specs.Forms.{form}
use Rattle.guest_save.specs.Savable.{IsSavable}
use Rattle.guest_turns.specs.declared.sources.Source.{Source}
use Rattle.guest_turns.specs.Hosted.{is_set, machine_at, no_machine}
use Rattle.guest_turns.specs.Saving.{MayBeSaved}
use Rattle.guest_turns.specs.Sources.{machine_of_source, machines_of_sources}
use Rattle.guest_turns.specs.TurnLists.{own_steps, with_turns}
use Rattle.guest_turns.proofs.SavedRuns.{may_be_saved}
use Rattle.guest_turns.proofs.TurnLists.{runs_its_own_turns, turns_keep_count}
use Rattle.machine_defs.specs.Machine.{Machine}
use Rattle.machine_defs.specs.Runs.{run}
use Rattle.outside.specs.Pieces.{Puts}
use Rattle.nesthv_top.specs.declared.ends.Job.{Job}
use Rattle.nesthv_top.specs.Endings.{IfSave}
use Rattle.nesthv_top.specs.Plans.{IsResumable, machine_after, name_of_source}
use Rattle.nesthv_top.specs.Runnings.{hosted_as}
use Rattle.nesthv_top.specs.Seen.{plan_seen, HasGuest, IsJob}
use Rattle.nesthv_top.proofs.RetiredMachines.{active_one, as_many_hosted}
use Rattle.nesthv_top.proofs.SourceMachines.{no_source}

-- a guest that has not retired is as its own turns leave its machine
pub saved_one : (job : Job) (retired : List Bool) (after : List Machine) (g : ℕ) → g < length job.sources.items → is_set retired g ≡ false
    → after ≡ hosted_as retired (with_turns job.config.turns (machines_of_sources job.sources.items)) → machine_at after g ≡ machine_after (plan_seen job) g
saved_one job retired after g inside active is =
    let first = machines_of_sources job.sources.items in
    let there : g < length first = rw (length-map job.sources.items machine_of_source) inside in
    ap (λ ms. machine_at ms g) is ∙ active_one retired (with_turns job.config.turns first) g active ∙ runs_its_own_turns job.config.turns first g there

-- so its form is that of its machine
pub put_saved : {S : Type 0} (stands_for : S → List ℕ → Type 0) (old new : S) (whole : Bool) (job : Job) (g : ℕ) (m : Machine) → m ≡ machine_after (plan_seen job) g
    → Puts stands_for old new whole (form m) → Puts stands_for old new whole (form (machine_after (plan_seen job) g))
put_saved stands_for old new whole job g m is put = subst (λ m. Puts stands_for old new whole (form m)) is put

-- and it can be saved
pub resumable : (job : Job) (g : ℕ) (m : Machine) → IsJob job → g < length job.sources.items → m ≡ machine_after (plan_seen job) g → (MayBeSaved m → IsSavable m)
    → IsResumable (plan_seen job) g
unfolding IsResumable
resumable job g m is inside same can = λ few. subst IsSavable same (can (subst MayBeSaved (sym same) (may few)))
  where
    source : Source
    source = get_or job.sources.items g no_source

    steps : ℕ
    steps = own_steps g job.config.turns

    own : run (machine_of_source source) steps ≡ machine_after (plan_seen job) g
    own = ap (λ m. run m steps) (sym (get_or-map machine_of_source job.sources.items g no_source no_machine inside))

    may : (machine_after (plan_seen job) g).platform.steps ≤ 2 ^ 60 → MayBeSaved (machine_after (plan_seen job) g)
    may few = subst MayBeSaved own (may_be_saved source steps (is.sources g no_source inside) (subst (λ (m : Machine). m.platform.steps ≤ 2 ^ 60) (sym own) few))

-- there is a machine for each source
pub as_many_sources : (job : Job) (retired : List Bool) (after : List Machine) → after ≡ hosted_as retired (with_turns job.config.turns (machines_of_sources job.sources.items))
    → length after ≡ length job.sources.items
as_many_sources job retired after is =
    let first = machines_of_sources job.sources.items in
    ap length is ∙ as_many_hosted retired (with_turns job.config.turns first) ∙ turns_keep_count job.config.turns first ∙ length-map job.sources.items machine_of_source

-- the guest that a command saves is one of the job's
lacks : (guest count : ℕ) (there : Bool) → nat_le (guest + 1) count ≡ there → unless there (fault.no_guest guest) ≡ None → guest < count
lacks guest count true is none = let within : guest + 1 ≤ count = grind (arith, is) in omega (arith, within)
lacks guest count false is none = cc

pub guest_there : (request : FileRequest) (config : Bor (List ℕ)) (guest : ℕ) (job : Job) → request ≡ file_request.Save config guest → HasGuest (file_command_seen request) job.config → IsJob job
    → guest < length job.sources.items
guest_there request config guest job is has job_is =
    let own : unless (nat_le (guest + 1) (length job.config.guests)) (fault.no_guest guest) ≡ None = rw is at has in
    let there : guest < length job.config.guests = lacks guest (length job.config.guests) (nat_le (guest + 1) (length job.config.guests)) refl own in
    let as_many : length job.sources.items ≡ length job.config.guests =
    sym (length-map job.sources.items name_of_source) ∙ ap length job_is.names ∙ length-map job.config.guests (λ guest. guest.name) in
    omega (arith, there, as_many)

pub saved_there : (request : FileRequest) (config : Bor (List ℕ)) (guest : ℕ) (job : Job) → request ≡ file_request.Save config guest → IsResumable (plan_seen job) guest
    → IfSave (OnFiles (file_command_seen request)) (IsResumable (plan_seen job))
saved_there request config guest job is can = rw is can
