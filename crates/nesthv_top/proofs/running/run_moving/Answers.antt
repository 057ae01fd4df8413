use Rattle.std.proofs.Common.{◌≡◌, ◌∙◌, ◌<◌, length, get_or, refl, ap, sym, arith}
use Rattle.std.proofs.lemmas.List.{take_all}
use Rattle.guest_turns.specs.Hosted.{is_set, machine_at}
use Rattle.guest_turns.specs.TurnLists.{with_turns}
use Rattle.nesthv_top.specs.Moving.{shares_of}
use Rattle.nesthv_top.specs.Runnings.{hosted_as}
use Rattle.guest_turns.proofs.Updating.{length_updated}
use Rattle.machine_defs.specs.Runs.{run}
use Rattle.nesthv_top.proofs.MovedShares.{shares_at_end, shares_go_on, shares_retire, who_retired}
use Rattle.nesthv_top.proofs.MovingTurns.{goes_on, left_before, left_now, lone, moving_begins, next_active, one_left, retires, still_there, turned_and_moved, turned_blocks}
use Rattle.nesthv_top.proofs.RetiredMachines.{active_one, as_many_hosted}
use Rattle.nesthv_top.proofs.Turning.{bounded, entries_left}
use Rattle.nesthv_top.proofs.running.run_moving.Goals.{then-left-guest-eq0, else-left-guest-eq0}
use Rattle.nesthv_top.proofs.running.run_moving.Goals as goal

pub turns_left-left-requires-clause-guests : goal.turns_left-left-requires-clause-guests
turns_left-left-requires-clause-guests c = λ k d inside. omega (arith, (c.requires.ready.short k d inside).guest, c.requires.movable.guests)

pub loop-t-init : goal.loop-t-init
loop-t-init c = record {
  moving = moving_begins c.args.kept c.args.turns.now c.args.tally.now c.args.moves.now c.args.host.now c.turns_left-left.result c.requires.movable.flags c.turns_left-left.ensures.count
      c.turns_left-left.ensures.turns c.requires.ready.active (left_before c.args.turns.now c.args.host.now.machines c.args.tally.now c.requires.ready.steps) c.requires.movable.blocks c.requires.movable.free;
  shares = refl;
}

pub turn-requires : goal.turn-requires
turn-requires c =
    let inv = c.loop-t.invariant.moving in
    let turn = get_or c.args.turns.now c.loop-t.t (0, 0) in
    let ms = lone c.args.turns.now c.args.host.now.machines c.loop-t.t in
    let short = c.requires.ready.short c.loop-t.t (0, 0) c.loop-t-test.true in
    let active = next_active c.args.kept c.args.turns.now _ _ _ c.loop-t.t turn.0 turn.1 c.loop-t.host _ _ _ (0, 0) c.loop-t-test.true refl inv in
    let here : machine_at c.loop-t.host.machines turn.0 ≡ machine_at ms turn.0 = ap (λ ms. machine_at ms turn.0) inv.machines ∙ active_one c.loop-t.host.retired ms turn.0 active in
    let b = bounded _ c.args.turns.now _ _ c.loop-t.t (0, 0) _ _ c.requires.ready.few c.requires.ready.short c.loop-t-test.true inv.turns_left in
    let inside : turn.0 < length ms = rw inv.turns_left.count short.guest in
    record {
      can = record {
        guest = record {
          there = omega (arith, short.guest, inv.turns_left.count, ap length inv.machines, as_many_hosted c.loop-t.host.retired ms);
          active = active;
        };
        steps = rw here (omega (arith, b.0, b.1, inv.turns_left.steps turn.0 inside));
        room = rw here (record {
          entries = entries_left _ c.args.turns.now _ _ c.loop-t.t (0, 0) _ _ c.requires.ready.few c.requires.ready.short c.requires.ready.rooms c.loop-t-test.true inv.turns_left c.requires.room.account.entries;
          taken = omega (arith, b.0, b.1, inv.turns_left.taken_most, c.requires.room.account.taken);
        });
      };
    }

pub move_block-requires-clause-guest : goal.move_block-requires-clause-guest
move_block-requires-clause-guest c =
    let inv = c.loop-t.invariant.moving in
    let turn = get_or c.args.turns.now c.loop-t.t (0, 0) in
    record {
      there = omega (
        arith,
        (c.requires.ready.short c.loop-t.t (0, 0) c.loop-t-test.true).guest,
        inv.turns_left.count,
        ap length inv.machines,
        as_many_hosted c.loop-t.host.retired (lone c.args.turns.now c.args.host.now.machines c.loop-t.t),
        ap length c.turn.ensures.machines,
        length_updated turn.0 (λ m. run m turn.1) c.loop-t.host.machines,
      );
      active = ap (λ flags. is_set flags turn.0) c.turn.ensures.shares.retired
          ∙ next_active c.args.kept c.args.turns.now _ _ _ c.loop-t.t turn.0 turn.1 c.loop-t.host _ _ _ (0, 0) c.loop-t-test.true refl inv;
    }

pub move_block-requires-clause-blocks : goal.move_block-requires-clause-blocks
move_block-requires-clause-blocks c =
    let turn = get_or c.args.turns.now c.loop-t.t (0, 0) in
    turned_blocks c.loop-t.host c.turn.new.self (ap length c.turn.ensures.machines ∙ length_updated turn.0 (λ m. run m turn.1) c.loop-t.host.machines) c.turn.ensures.shares.parts c.turn.ensures.shares.retired
    c.loop-t.invariant.moving.blocks

pub bounds-left-guest : goal.bounds-left-guest
bounds-left-guest c = omega (arith, (c.requires.ready.short c.loop-t.t (0, 0) c.loop-t-test.true).guest, c.requires.movable.guests)

pub bounds-left-guest-in-loop-t : goal.bounds-left-guest-in-loop-t
bounds-left-guest-in-loop-t c = omega (arith, (c.requires.ready.short c.loop-t.t (0, 0) c.loop-t-test.true).guest, c.requires.movable.guests)

pub bounds-left-guest-in-loop-t-2 : goal.bounds-left-guest-in-loop-t-2
bounds-left-guest-in-loop-t-2 c = omega (arith, (c.requires.ready.short c.loop-t.t (0, 0) c.loop-t-test.true).guest, c.requires.movable.guests)

pub overflow_sub-left : goal.overflow_sub-left
overflow_sub-left c =
    let turn = get_or c.args.turns.now c.loop-t.t (0, 0) in
    let few : turn.0 < 16 = omega (arith, (c.requires.ready.short c.loop-t.t (0, 0) c.loop-t-test.true).guest, c.requires.movable.guests) in
    one_left c.args.kept c.args.turns.now c.loop-t.t turn.0 turn.1 c.loop-t.left (0, 0) c.loop-t-test.true refl (c.loop-t.invariant.moving.own turn.0 few)

pub retire-requires-clause-guest : goal.retire-requires-clause-guest
retire-requires-clause-guest c =
    let inv = c.loop-t.invariant.moving in
    let turn = get_or c.args.turns.now c.loop-t.t (0, 0) in
    omega (
      arith,
      (c.requires.ready.short c.loop-t.t (0, 0) c.loop-t-test.true).guest,
      inv.turns_left.count,
      ap length inv.machines,
      as_many_hosted c.loop-t.host.retired (lone c.args.turns.now c.args.host.now.machines c.loop-t.t),
      ap length c.turn.ensures.machines,
      length_updated turn.0 (λ m. run m turn.1) c.loop-t.host.machines,
      ap length c.move_block.ensures.moved.machines,
    )

pub retire-requires-clause-active : goal.retire-requires-clause-active
retire-requires-clause-active c =
    let turn = get_or c.args.turns.now c.loop-t.t (0, 0) in
    ap (λ flags. is_set flags turn.0) c.move_block.ensures.moved.retired ∙ ap (λ flags. is_set flags turn.0) c.turn.ensures.shares.retired
    ∙ next_active c.args.kept c.args.turns.now _ _ _ c.loop-t.t turn.0 turn.1 c.loop-t.host _ _ _ (0, 0) c.loop-t-test.true refl c.loop-t.invariant.moving

pub loop-t-preserved : goal.loop-t-preserved
loop-t-preserved c =
    let turn = get_or c.args.turns.now c.loop-t.t (0, 0) in
    let few : turn.0 < 16 = omega (arith, (c.requires.ready.short c.loop-t.t (0, 0) c.loop-t-test.true).guest, c.requires.movable.guests) in
    let between = turned_and_moved c.args.kept c.args.turns.now c.args.host.now.machines c.args.tally.now c.args.moves.now c.loop-t.t turn.0 turn.1 c.turn.result _ _ c.loop-t.host c.turn.new.self
    c.move_block.new.host c.loop-t.left c.loop-t.tally c.turn.new.tally c.loop-t.moves c.move_block.new.moves (0, 0) c.loop-t-test.true refl c.loop-t.invariant.moving
    c.turn.ensures.machines c.turn.ensures.made c.turn.ensures.account c.turn.ensures.shares c.move_block.ensures.moved c.move_block.ensures.counted few in
    let now = left_now c.args.kept c.args.turns.now c.args.host.now.machines c.args.tally.now c.args.moves.now c.loop-t.t turn.0 c.move_block.new.host c.loop-t.left c.turn.new.tally
    c.move_block.new.moves few between in
    elim c.if-left-guest-eq0.branch [
      | then-left-guest-eq0 w ↦ rw w.host-is (record {
        moving = retires c.args.kept c.args.turns.now c.args.host.now.machines c.args.tally.now c.args.moves.now c.loop-t.t turn.0 c.move_block.new.host w.retire.new.self
            c.loop-t.left c.turn.new.tally c.move_block.new.moves few between w.if-left-guest-eq0.true w.retire.ensures;
        shares = sym (shares_retire c.args.kept c.args.turns.now c.loop-t.t turn.0 turn.1 (0, 0) c.loop-t.host c.turn.new.self c.move_block.new.host w.retire.new.self c.loop-t-test.true refl
            c.turn.ensures.shares c.move_block.ensures.moved w.retire.ensures (sym now ∙ w.if-left-guest-eq0.true)) ∙ c.loop-t.invariant.shares;
      })
      | else-left-guest-eq0 w ↦ rw w.host-is (record {
        moving = goes_on c.args.kept c.args.turns.now c.args.host.now.machines c.args.tally.now c.args.moves.now c.loop-t.t turn.0 c.move_block.new.host
            c.loop-t.left c.turn.new.tally c.move_block.new.moves few between;
        shares = sym (shares_go_on c.args.kept c.args.turns.now c.loop-t.t turn.0 turn.1 (0, 0) c.loop-t.host c.turn.new.self c.move_block.new.host c.loop-t-test.true refl
            c.turn.ensures.shares c.move_block.ensures.moved (λ none. w.if-left-guest-eq0.false (now ∙ none))) ∙ c.loop-t.invariant.shares;
      })
    ]

pub returns-clause-made : goal.returns-clause-made
returns-clause-made c =
    let inv = c.loop-t.invariant.moving in
    let shares = sym (shares_at_end c.args.kept c.args.turns.now c.loop-t.t (shares_of c.loop-t.host) c.loop-t-test.false) ∙ c.loop-t.invariant.shares in
    record {
      machines = inv.machines ∙ ap (λ turns. hosted_as c.loop-t.host.retired (with_turns turns c.args.host.now.machines)) (take_all c.loop-t.t c.args.turns.now c.loop-t-test.false);
      there = still_there c.args.kept _ _ _ _ _ _ _ _ _ inv;
      retired = λ g inside.
          who_retired c.args.kept c.args.turns.now c.args.host.now c.loop-t.host g c.requires.movable.flags (omega (arith, inside, c.requires.movable.guests)) (c.requires.ready.active g) shares;
      shares = shares;
    }
