use Rattle.std.proofs.Common.{◌≡◌, length, map, ◌∙◌, refl, ap, subst}
use Rattle.std.proofs.lemmas.List.{length-map}
use Rattle.guest_turns.specs.declared.sources.Source.TheVariants.{Fresh}
use Rattle.guest_turns.specs.Sources.{machine_of_source, machines_of_sources}
use Rattle.guest_turns.specs.TurnLists.{with_turns}
use Rattle.guest_turns.proofs.Savables.{fresh_machines}
use Rattle.guest_turns.proofs.TurnLists.{turns_keep_count}
use Rattle.machine_defs.specs.Machine.{start}
use Rattle.turn_plan.specs.Turns.{rounds_of}
use Rattle.work_images.specs.Guests.{guests}
use Rattle.nesthv_top.specs.Runnings.{CountsTurns}
use Rattle.nesthv_top.specs.Seen.{plan_with}
use Rattle.nesthv_top.proofs.RetiredMachines.{as_many_hosted, none_retired}
use Rattle.nesthv_top.proofs.SourceMachines.{run_as_written}
use Rattle.nesthv_top.proofs.Working.{four_guests, sources_bootable, text_is, work_runs}
use Rattle.nesthv_top.proofs.works.generated.Goals as goal

pub returns-in_err-guests-clause-written : goal.returns-in_err-guests-clause-written
returns-in_err-guests-clause-written c =
    run_as_written (map Fresh (guests c.args.seed c.args.size)) (rounds_of 4 1000 c.args.size) 0 (record {
      suffice = c.fills_suffice.ensures.suffice;
      orderly = c.machines_stay_orderly.ensures.stays;
      architectural = c.runs_are_architectural.ensures.machines;
      uses = c.runs_are_fresh.ensures.guests_uses;
      first = c.runs_are_fresh.ensures.guests_first;
      goes_on = c.saved_machines_go_on.ensures.goes_on;
      since = c.saved_machines_go_on.ensures.fresh;
      first_since = c.saved_machines_go_on.ensures.first;
    }) (sources_bootable c.args.seed c.args.size c.requires.asked.size_most)

pub returns-in_err-turns-clause-written : goal.returns-in_err-turns-clause-written
returns-in_err-turns-clause-written c =
    run_as_written (map Fresh (guests c.args.seed c.args.size)) (rounds_of 4 1000 c.args.size) 0 (record {
      suffice = c.fills_suffice.ensures.suffice;
      orderly = c.machines_stay_orderly.ensures.stays;
      architectural = c.runs_are_architectural.ensures.machines;
      uses = c.runs_are_fresh.ensures.guests_uses;
      first = c.runs_are_fresh.ensures.guests_first;
      goes_on = c.saved_machines_go_on.ensures.goes_on;
      since = c.saved_machines_go_on.ensures.fresh;
      first_since = c.saved_machines_go_on.ensures.first;
    }) (sources_bootable c.args.seed c.args.size c.requires.asked.size_most)

pub returns-in_err-sources-clause-written : goal.returns-in_err-sources-clause-written
returns-in_err-sources-clause-written c =
    run_as_written (map Fresh (guests c.args.seed c.args.size)) (rounds_of 4 1000 c.args.size) 0 (record {
      suffice = c.fills_suffice.ensures.suffice;
      orderly = c.machines_stay_orderly.ensures.stays;
      architectural = c.runs_are_architectural.ensures.machines;
      uses = c.runs_are_fresh.ensures.guests_uses;
      first = c.runs_are_fresh.ensures.guests_first;
      goes_on = c.saved_machines_go_on.ensures.goes_on;
      since = c.saved_machines_go_on.ensures.fresh;
      first_since = c.saved_machines_go_on.ensures.first;
    }) (sources_bootable c.args.seed c.args.size c.requires.asked.size_most)

pub hosted-requires-clause-plan : goal.hosted-requires-clause-plan
hosted-requires-clause-plan c =
    let sources = c.in_ok-sources.ensures ∙ ap (map Fresh) c.in_ok-guests.ensures in
    let turns = c.as_slice.ensures ∙ c.in_ok-turns.ensures in
    rw (sources, turns) (work_runs c.args.seed c.args.size c.requires.asked.size_most)

pub returns-clause-ran : goal.returns-clause-ran
returns-clause-ran c =
    let first = machines_of_sources c.in_ok-sources.sources.items in
    let machines : first ≡ map start (guests c.args.seed c.args.size) =
    ap machines_of_sources (c.in_ok-sources.ensures ∙ ap (map Fresh) c.in_ok-guests.ensures) ∙ fresh_machines (guests c.args.seed c.args.size) in
    record {
      count = ap length c.in_ok-host.ensures.ran.machines ∙ as_many_hosted c.in_ok-host.host.retired (with_turns c.as_slice.result.now first) ∙ turns_keep_count c.as_slice.result.now first
          ∙ length-map c.in_ok-sources.sources.items machine_of_source ∙ ap length c.in_ok-sources.ensures ∙ length-map c.in_ok-guests.guests.items Fresh
          ∙ ap length c.in_ok-guests.ensures ∙ four_guests c.args.seed c.args.size;
      lines = text_is c.args.seed c.args.size c.in_ok-host.host.machines (c.in_ok-host.ensures.ran.machines
          ∙ none_retired c.in_ok-host.host.retired (with_turns c.as_slice.result.now first) (c.in_ok-host.ensures.ran.active refl)
          ∙ ap (λ turns. with_turns turns first) (c.as_slice.ensures ∙ c.in_ok-turns.ensures)
          ∙ ap (with_turns (rounds_of 4 1000 c.args.size)) machines);
    }

pub returns-clause-account : goal.returns-clause-account
returns-clause-account c =
    subst (λ sources. CountsTurns (plan_with sources (rounds_of 4 1000 c.args.size) 0) c.args.tally.now c.hosted.new.tally)
    (c.in_ok-sources.ensures ∙ ap (map Fresh) c.in_ok-guests.ensures)
    (subst (λ turns. CountsTurns (plan_with c.in_ok-sources.sources.items turns 0) c.args.tally.now c.hosted.new.tally) (c.as_slice.ensures ∙ c.in_ok-turns.ensures)
    c.in_ok-host.ensures.counted.account)
