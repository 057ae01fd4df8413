use Rattle.std.proofs.Common.{◌∙◌, ◌<◌, length, get_or, refl, arith}
use Rattle.nesthv_top.proofs.Turning.{bounded, counted_turns, entries_left, left_next}
use Rattle.nesthv_top.proofs.running.run_turns.Goals as goal

pub turn-requires : goal.turn-requires
turn-requires c =
    let left = c.loop-guest.invariant.left in
    let b = bounded _ c.args.turns.now _ _ c.loop-guest.guest-index (0, 0) _ _ c.requires.ready.few c.requires.ready.short c.loop-guest-test.true left in
    let turn = get_or c.args.turns.now c.loop-guest.guest-index (0, 0) in
    let inside : turn.0 < length c.loop-guest.host.machines =
    rw left.count (c.requires.ready.short c.loop-guest.guest-index (0, 0) c.loop-guest-test.true).guest in
    record {
      can = record {
        guest = record { there = inside; active = c.loop-guest.invariant.active turn.0 };
        steps = omega (arith, b.0, b.1, left.steps turn.0 inside);
        room = record {
          entries =
              entries_left _ c.args.turns.now _ _ c.loop-guest.guest-index (0, 0) _ _ c.requires.ready.few c.requires.ready.short c.requires.ready.rooms c.loop-guest-test.true
              left c.requires.room.entries;
          taken = omega (arith, b.0, b.1, left.taken_most, c.requires.room.taken);
        };
      };
    }

pub loop-guest-preserved : goal.loop-guest-preserved
loop-guest-preserved c = record {
  left = left_next c.args.turns.now c.args.host.now.machines c.args.tally.now c.loop-guest.guest-index _ _ c.turn.result (0, 0) c.loop-guest.host.machines c.loop-guest.tally
      c.turn.new.self.machines c.turn.new.tally c.loop-guest-test.true refl c.loop-guest.invariant.left c.turn.ensures.machines c.turn.ensures.made c.turn.ensures.account;
  active = rw c.turn.ensures.shares.retired c.loop-guest.invariant.active;
  shares = record {
    parts = c.turn.ensures.shares.parts ∙ c.loop-guest.invariant.shares.parts;
    free = c.turn.ensures.shares.free ∙ c.loop-guest.invariant.shares.free;
    retired = c.turn.ensures.shares.retired ∙ c.loop-guest.invariant.shares.retired;
  };
}

pub returns-clause-account : goal.returns-clause-account
returns-clause-account c = counted_turns c.args.turns.now _ _ c.loop-guest.guest-index _ _ c.loop-guest-test.false c.loop-guest.invariant.left
