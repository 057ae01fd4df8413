use Rattle.std.proofs.Common.{◌≡◌, ◌∙◌, ◌+◌, ◌<◌, length, get_or, ap, sym, subst, arith}
use Rattle.std.specs.Prelude.{IfSome}
use Rattle.std.specs.List.{All}
use Rattle.std.proofs.lemmas.List.{get_or-map, length-map}
use Rattle.arch_defs.specs.Layouts.{no_part}
use Rattle.guest_turns.specs.Sources.{machine_of_source, machines_of_sources, need_of_source, needs_of_sources}
use Rattle.guest_turns.specs.TurnLists.{with_turns}
use Rattle.run_config.specs.Configurations.{IsTurnWithin}
use Rattle.nesthv_top.specs.Moving.{shares_of, AreBooted}
use Rattle.nesthv_top.specs.Runnings.{hosted_as}
use Rattle.nesthv_top.proofs.MovedShares.{each_moved, each_moves, each_retires, kept_shares, none_moved, none_retires}
use Rattle.nesthv_top.proofs.Reporting.{counted}
use Rattle.nesthv_top.proofs.RetiredMachines.{all_active, none_retired}
use Rattle.nesthv_top.proofs.SourceMachines.{needs_block, no_source, run_as_written}
use Rattle.nesthv_top.proofs.running.hosted.Goals.{then-spare-eq0, else-spare-eq0}
use Rattle.nesthv_top.proofs.running.hosted.Goals as goal

pub returns-in_err-host-clause-written : goal.returns-in_err-host-clause-written
returns-in_err-host-clause-written c =
    run_as_written c.args.plan.sources.items c.args.plan.turns.now c.args.plan.spare (record {
      suffice = c.fills_suffice.ensures.suffice;
      orderly = c.machines_stay_orderly.ensures.stays;
      architectural = c.runs_are_architectural.ensures.machines;
      uses = c.runs_are_fresh.ensures.guests_uses;
      first = c.runs_are_fresh.ensures.guests_first;
      goes_on = c.saved_machines_go_on.ensures.goes_on;
      since = c.saved_machines_go_on.ensures.fresh;
      first_since = c.saved_machines_go_on.ensures.first;
    }) c.requires.plan.sources.each

pub run_moving-requires-clause-ready : goal.run_moving-requires-clause-ready
run_moving-requires-clause-ready c =
    let machines : length c.in_ok-host.host.machines ≡ length c.args.plan.sources.items = ap length c.in_ok-host.ensures.machines ∙ length-map c.args.plan.sources.items machine_of_source in
    record {
      steps = c.in_ok-host.ensures.steps;
      active = c.in_ok-host.ensures.begins.active;
      rooms = c.rooms_are_small.ensures;
      few = c.requires.plan.few;
      short = subst (λ n. All (IsTurnWithin n) c.args.plan.turns.now) (sym machines) c.requires.plan.short;
    }

pub run_moving-requires-clause-movable : goal.run_moving-requires-clause-movable
run_moving-requires-clause-movable c =
    let parts = c.in_ok-host.ensures.parts in
    let machines : length c.in_ok-host.host.machines ≡ length c.args.plan.sources.items = ap length c.in_ok-host.ensures.machines ∙ length-map c.args.plan.sources.items machine_of_source in
    record {
      blocks = record {
        count = parts.count ∙ length-map c.args.plan.sources.items need_of_source ∙ sym machines;
        some = λ g inside active.
            let there : g < length c.args.plan.sources.items = omega (arith, inside, machines) in
            let guest = get_or c.args.plan.sources.items g no_source in
            let meets = parts.meet g (need_of_source no_source) no_part (rw (length-map c.args.plan.sources.items need_of_source) there) in
            omega (arith, meets.blocks, ap (λ need. need.blocks) (get_or-map need_of_source c.args.plan.sources.items g no_source (need_of_source no_source) there), needs_block guest (c.requires.plan.sources.each g no_source there));
      };
      free = omega (arith, c.in_ok-host.ensures.begins.count, c.if-spare-eq0.false);
      guests = omega (arith, machines, c.requires.plan.sources.few);
      flags = c.in_ok-host.ensures.begins.flags;
      there = subst (λ n. IfSome c.args.kept (λ g. g < n)) (sym machines) c.requires.plan.there;
    }

pub returns-clause-written : goal.returns-clause-written
returns-clause-written c =
    run_as_written c.args.plan.sources.items c.args.plan.turns.now c.args.plan.spare (record {
      suffice = c.fills_suffice.ensures.suffice;
      orderly = c.machines_stay_orderly.ensures.stays;
      architectural = c.runs_are_architectural.ensures.machines;
      uses = c.runs_are_fresh.ensures.guests_uses;
      first = c.runs_are_fresh.ensures.guests_first;
      goes_on = c.saved_machines_go_on.ensures.goes_on;
      since = c.saved_machines_go_on.ensures.fresh;
      first_since = c.saved_machines_go_on.ensures.first;
    }) c.requires.plan.sources.each

pub returns-clause-ran : goal.returns-clause-ran
returns-clause-ran c =
    let sources = c.args.plan.sources.items in
    let turns = c.args.plan.turns.now in
    let booted = c.in_ok-host.ensures in
    let first = machines_of_sources sources in
    let count : length c.in_ok-host.host.machines ≡ length sources = ap length booted.machines ∙ length-map sources machine_of_source in
    let are : AreBooted (needs_of_sources sources) c.args.plan.spare (shares_of c.in_ok-host.host) = record { parts = booted.parts; free = booted.begins.free; active = booted.begins.active } in
    elim c.if-spare-eq0.branch [
      | then-spare-eq0 w ↦
          let run = w.run_turns.ensures in
          rw w.host-is (record {
            machines = run.machines ∙ ap (with_turns turns) booted.machines ∙ sym (none_retired w.run_turns.new.host.retired (with_turns turns first) run.active);
            active = λ none. run.active;
            retired = λ g inside. run.active g ∙ sym (none_retires c.args.plan.spare c.args.kept turns g w.if-spare-eq0.true);
            shares = (
              shares_of c.in_ok-host.host,
              are,
              kept_shares c.in_ok-host.host w.run_turns.new.host run.shares ∙ sym (none_moved c.args.plan.spare c.args.kept turns (shares_of c.in_ok-host.host) w.if-spare-eq0.true),
            );
            there = all_active c.args.kept w.run_turns.new.host.retired run.active;
          })
      | else-spare-eq0 w ↦
          let run = w.run_moving.ensures.made in
          rw w.host-is (record {
            machines = run.machines ∙ ap (λ first. hosted_as w.run_moving.new.host.retired (with_turns turns first)) booted.machines;
            active = λ none. absurd (w.if-spare-eq0.false none);
            retired = λ g inside. run.retired g (omega (arith, inside, count)) ∙ sym (each_retires c.args.plan.spare c.args.kept turns g w.if-spare-eq0.false);
            shares = (shares_of c.in_ok-host.host, are, run.shares ∙ sym (each_moved c.args.plan.spare c.args.kept turns (shares_of c.in_ok-host.host) w.if-spare-eq0.false));
            there = run.there;
          })
    ]

pub returns-clause-counted : goal.returns-clause-counted
returns-clause-counted c =
    let sources = c.args.plan.sources.items in
    let turns = c.args.plan.turns.now in
    elim c.if-spare-eq0.branch [
      | then-spare-eq0 w ↦ rw (w.tally-is, w.moves-is) (record {
        account = counted sources turns c.args.plan.spare c.in_ok-host.host.machines c.args.tally.now w.run_turns.new.tally c.in_ok-host.ensures.machines w.run_turns.ensures.account;
        moved = rw w.if-spare-eq0.true (omega arith);
        idle = tt;
      })
      | else-spare-eq0 w ↦ rw (w.tally-is, w.moves-is) (record {
        account = counted sources turns c.args.plan.spare c.in_ok-host.host.machines c.args.tally.now w.run_moving.new.tally c.in_ok-host.ensures.machines w.run_moving.ensures.account;
        moved = w.run_moving.ensures.moved ∙ ap (λ n. c.args.moves.now + n) (sym (each_moves c.args.plan.spare turns w.if-spare-eq0.false));
        idle = tt;
      })
    ]
