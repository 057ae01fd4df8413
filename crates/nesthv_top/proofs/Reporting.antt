-- The report of a job, and the account of a run.
use Rattle.std.proofs.Common.{◌≡◌, ℕ, ◌+◌, ◌≤◌, List, length, Bool, ap, subst, sym, ◌∙◌, arith}
use Rattle.std.proofs.lemmas.List.{length-map}
use Rattle.machine_defs.specs.Machine.{Machine}
use Rattle.machine_defs.specs.Runs.{plain_count, trace_of}
use Rattle.outside.specs.Pieces.{Puts}
use Rattle.guest_turns.specs.declared.sources.Source.{Source}
use Rattle.guest_turns.specs.Sources.{machine_of_source, machines_of_sources}
use Rattle.guest_turns.specs.TurnLists.{entries_for, turn_events, with_turns}
use Rattle.guest_turns.proofs.TurnLists.{turns_keep_count}
use Rattle.run_config.specs.declared.guests.GuestSettings.{GuestSettings}
use Rattle.rv64_hart.specs.Counts.{Counts, IsRaisedBy}
use Rattle.nesthv_top.specs.declared.ends.Job.{Job}
use Rattle.nesthv_top.specs.Plans.{events_of, name_of_source, report_of}
use Rattle.nesthv_top.specs.Runnings.{hosted_as, sections_of, CountsTurns, CountsTurnsOf}
use Rattle.nesthv_top.specs.Seen.{names_in, names_of_sources, plan_seen, plan_with}
use Rattle.nesthv_top.proofs.RetiredMachines.{as_many_hosted, sections_same}
use Rattle.nesthv_top.proofs.TurnEvents.{plain_are, sections_are, trace_is}

-- there is a machine for each guest of the configuration
pub as_many : (job : Job) (retired : List Bool) (after : List Machine) → names_of_sources job.sources.items ≡ names_in job.config.guests
    → after ≡ hosted_as retired (with_turns job.config.turns (machines_of_sources job.sources.items)) → length after ≡ length job.config.guests
as_many job retired after names is =
    ap length is ∙ as_many_hosted retired (with_turns job.config.turns (machines_of_sources job.sources.items)) ∙ turns_keep_count job.config.turns (machines_of_sources job.sources.items)
    ∙ length-map job.sources.items machine_of_source ∙ sym (length-map job.sources.items name_of_source) ∙ ap length names ∙ length-map job.config.guests (λ guest. guest.name)

-- the sections of the machines after the turns are the report
report_is : (job : Job) → names_of_sources job.sources.items ≡ names_in job.config.guests
    → sections_of (names_in job.config.guests) (with_turns job.config.turns (machines_of_sources job.sources.items)) ≡ report_of (plan_seen job)
unfolding report_of
report_is job names =
    ap (λ names. sections_of names (with_turns job.config.turns (machines_of_sources job.sources.items))) (sym names)
    ∙ sections_are (names_of_sources job.sources.items) (machines_of_sources job.sources.items) job.config.turns

pub put_is : {S : Type 0} (stands_for : S → List ℕ → Type 0) (old new : S) (whole : Bool) (job : Job) (settings : List GuestSettings) (retired : List Bool) (after : List Machine)
    → names_of_sources job.sources.items ≡ names_in job.config.guests → settings ≡ job.config.guests
    → after ≡ hosted_as retired (with_turns job.config.turns (machines_of_sources job.sources.items))
    → Puts stands_for old new whole (sections_of (names_in settings) after) → Puts stands_for old new whole (report_of (plan_seen job))
put_is stands_for old new whole job settings retired after names same is put =
    let there : sections_of (names_in settings) after ≡ report_of (plan_seen job) =
    ap (λ settings. sections_of (names_in settings) after) same ∙ ap (sections_of (names_in job.config.guests)) is
    ∙ sections_same (names_in job.config.guests) retired (with_turns job.config.turns (machines_of_sources job.sources.items)) ∙ report_is job names in
    subst (Puts stands_for old new whole) there put

-- the account of the turns is that of the plan
plain_is : (sources : List Source) (turns : List (ℕ × ℕ)) (spare : ℕ) (first : List Machine) (began taken : ℕ) → first ≡ machines_of_sources sources
    → began + plain_count (turn_events turns first) ≤ taken → began + plain_count (events_of (plan_with sources turns spare)) ≤ taken
unfolding events_of
plain_is sources turns spare first began taken begin least =
    let there : plain_count (turn_events turns first) ≡ plain_count (events_of (plan_with sources turns spare)) =
    ap (λ first. plain_count (turn_events turns first)) begin ∙ plain_are turns (machines_of_sources sources) in
    subst (λ n. began + n ≤ taken) there least

traced : (sources : List Source) (turns : List (ℕ × ℕ)) (spare : ℕ) (first : List Machine) (began later : ℕ) → first ≡ machines_of_sources sources
    → IsRaisedBy (trace_of (turn_events turns first)) began later → IsRaisedBy (trace_of (events_of (plan_with sources turns spare))) began later
unfolding events_of
traced sources turns spare first began later begin raised =
    let there : trace_of (turn_events turns first) ≡ trace_of (events_of (plan_with sources turns spare)) =
    ap (λ first. trace_of (turn_events turns first)) begin ∙ trace_is turns (machines_of_sources sources) in
    subst (λ n. IsRaisedBy n began later) there raised

pub counted : (sources : List Source) (turns : List (ℕ × ℕ)) (spare : ℕ) (first : List Machine) (began now : Counts) → first ≡ machines_of_sources sources
    → CountsTurnsOf first turns began now → CountsTurns (plan_with sources turns spare) began now
counted sources turns spare first began now begin grew = record {
  entries_grow = grew.entries_grow;
  entries_most = subst (λ first. now.entries ≤ began.entries + entries_for first turns) begin grew.entries_most;
  taken_grow = omega (arith, grew.taken_least);
  taken_most = grew.taken_most;
  taken_least = plain_is sources turns spare first began.taken now.taken begin grew.taken_least;
  trace = traced sources turns spare first began.trace now.trace begin grew.trace;
}
