use Rattle.std.proofs.Common.{◌≡◌, ◌+◌, ◌^◌, ◌≤◌, ◌∙◌, ap, refl, sym, subst, arith}
use Rattle.arch_defs.proofs.FrameSets.{only_none}
use Rattle.guest_exit.proofs.Alone.{only_of_blocks, stays_by}
use Rattle.guest_exit.specs.declared.guests.Guest.{Guest}
use Rattle.guest_exit.specs.View.{changed_by, machine_of, platform_of}
use Rattle.guest_turns.specs.Tries.{IsTried, made_by_host}
use Rattle.guest_turns.proofs.Current.{after_step}
use Rattle.guest_turns.proofs.Parts.{handed_current}
use Rattle.guest_turns.proofs.Placing.{fixed_both, only_then}
use Rattle.guest_turns.proofs.SingleTries.{entered_counts, handled_counts, handled_tried, lasts_once, none_made, one_made}
use Rattle.guest_turns.proofs.trying.try_of.Goals as goal

-- an interrupt that the host takes
pub returns-then-interrupt-clause-tried : goal.returns-then-interrupt-clause-tried
returns-then-interrupt-clause-tried c =
    let takes = c.interrupt.ensures.due.takes c.if-interrupt.true in (takes.step c.args.memory.now, takes.event c.args.memory.now)

pub returns-then-interrupt-clause-stays : goal.returns-then-interrupt-clause-stays
returns-then-interrupt-clause-stays c =
    record {
      hosted =
          let takes = c.interrupt.ensures.due.takes c.if-interrupt.true in
          record {
            placed = c.interrupt.ensures.placed c.args.memory.now c.requires.can.placed;
            clock = omega (arith, c.requires.can.step.clock, takes.made, takes.clock);
            current =
                after_step (machine_of c.args.guest.now c.args.memory.now) (machine_of c.interrupt.new.guest c.args.memory.now) c.requires.can.current
                (takes.step c.args.memory.now);
          };
      keeps = stays_by c.args.guest.now c.interrupt.new.guest c.interrupt.ensures.keeps;
      only = only_none (changed_by c.args.guest.now) c.args.memory.now;
    }

pub returns-then-interrupt-clause-account : goal.returns-then-interrupt-clause-account
returns-then-interrupt-clause-account c =
    let takes = c.interrupt.ensures.due.takes c.if-interrupt.true in
    record {
      entries_grow = omega arith;
      entries_most = omega arith;
      none = λ same. refl;
      taken_least = omega arith;
      taken_most = omega (arith, takes.made);
      trace = omega arith;
    }

-- an entry of the hart
pub enter_once-requires-clause-can : goal.enter_once-requires-clause-can
enter_once-requires-clause-can c =
    let same = c.interrupt.ensures.due.stays c.if-interrupt.false in
    record {
      running = c.interrupt.ensures.status;
      placed = c.interrupt.ensures.placed c.args.memory.now c.requires.can.placed;
      lasts = lasts_once (platform_of c.interrupt.new.guest) (rw same c.requires.can.current) (rw same (sym c.interrupt.ensures.due.which ∙ c.if-interrupt.false));
      clock = rw same c.requires.can.step.clock;
      steps = omega (arith, ap (λ guest. guest.steps) same, c.requires.can.step.steps);
    }

pub returns-in-Made-clause-tried : goal.returns-in-Made-clause-tried
returns-in-Made-clause-tried c =
    let same = c.interrupt.ensures.due.stays c.if-interrupt.false in (
      one_made (machine_of c.args.guest.now c.args.memory.now) (machine_of c.enter_once.new.guest c.enter_once.new.memory) (rw same at c.in-Made.ensures.entered.run),
      rw same at c.in-Made.ensures.event,
    )

pub returns-in-Made-clause-stays : goal.returns-in-Made-clause-stays
returns-in-Made-clause-stays c =
    record {
      hosted =
          let before : c.interrupt.new.guest.clock.time ≤ 2 ^ 62 + c.interrupt.new.guest.steps = rw (c.interrupt.ensures.due.stays c.if-interrupt.false) c.requires.can.step.clock in
          record {
            placed = c.enter_once.ensures.entered.keeps.placed;
            clock = omega (arith, before, c.in-Made.ensures.entered.goes.clock, c.in-Made.ensures.entered.goes.steps);
            current = c.in-Made.ensures.entered.goes.current;
          };
      keeps =
          fixed_both c.args.guest.now c.interrupt.new.guest c.enter_once.new.guest (stays_by c.args.guest.now c.interrupt.new.guest c.interrupt.ensures.keeps)
          (stays_by c.interrupt.new.guest c.enter_once.new.guest c.enter_once.ensures.entered.keeps.keeps);
      only =
          rw (c.interrupt.ensures.due.stays c.if-interrupt.false) at
          (only_of_blocks c.interrupt.new.guest c.args.memory.now c.enter_once.new.memory c.enter_once.ensures.entered.keeps.only);
    }

pub returns-in-Made-clause-account : goal.returns-in-Made-clause-account
returns-in-Made-clause-account c =
    let same = c.interrupt.ensures.due.stays c.if-interrupt.false in
    entered_counts (machine_of c.args.guest.now c.args.memory.now) (machine_of c.enter_once.new.guest c.enter_once.new.memory) _ c.args.tally.now c.enter_once.new.tally
    (rw same at c.in-Made.ensures.entered.run) (rw same at c.in-Made.ensures.event) (rw same at c.in-Made.ensures.entered.account)
    (c.in-Made.ensures.entered.goes.steps ∙ ap (λ (guest : Guest). guest.steps + 1) same)

-- what the host makes of what the hart left
pub returns-in-Left-clause-tried : goal.returns-in-Left-clause-tried
returns-in-Left-clause-tried c =
    let same = c.interrupt.ensures.due.stays c.if-interrupt.false in
    let between = machine_of c.enter_once.new.guest c.enter_once.new.memory in
    let none : between ≡ machine_of c.args.guest.now c.args.memory.now = none_made (machine_of c.args.guest.now c.args.memory.now) between (rw same at c.in-Left.ensures.entered.run) in
    rw c.made_of.ensures
    (subst (λ m. IsTried (made_by_host c.handle.result) m (machine_of c.handle.new.guest c.handle.new.memory)) none
    (handled_tried between (machine_of c.handle.new.guest c.handle.new.memory) c.handle.result c.handle.ensures.does c.handle.ensures.tried.event c.handle.ensures.answers.waits))

pub returns-in-Left-clause-stays : goal.returns-in-Left-clause-stays
returns-in-Left-clause-stays c =
    record {
      hosted = record {
        placed = c.handle.ensures.keeps.placed;
        clock = c.handle.ensures.told.clock;
        current =
            handed_current c.enter_once.new.guest c.handle.new.guest c.enter_once.new.memory c.handle.new.memory c.handle.result c.in-Left.ensures.entered.goes.current
            c.handle.ensures.does.step c.handle.ensures.does.fill;
      };
      keeps =
          fixed_both c.args.guest.now c.enter_once.new.guest c.handle.new.guest
          (fixed_both c.args.guest.now c.interrupt.new.guest c.enter_once.new.guest (stays_by c.args.guest.now c.interrupt.new.guest c.interrupt.ensures.keeps)
          (stays_by c.interrupt.new.guest c.enter_once.new.guest c.enter_once.ensures.entered.keeps.keeps))
          c.handle.ensures.keeps.keeps;
      only =
          let entered =
          fixed_both c.args.guest.now c.interrupt.new.guest c.enter_once.new.guest (stays_by c.args.guest.now c.interrupt.new.guest c.interrupt.ensures.keeps)
          (stays_by c.interrupt.new.guest c.enter_once.new.guest c.enter_once.ensures.entered.keeps.keeps) in
          let only = rw (c.interrupt.ensures.due.stays c.if-interrupt.false) at
          (only_of_blocks c.interrupt.new.guest c.args.memory.now c.enter_once.new.memory c.enter_once.ensures.entered.keeps.only) in
          only_then c.args.guest.now c.enter_once.new.guest c.handle.new.guest c.args.memory.now c.enter_once.new.memory c.handle.new.memory entered only c.handle.ensures.keeps.only;
    }

pub returns-in-Left-clause-account : goal.returns-in-Left-clause-account
returns-in-Left-clause-account c =
    let same = c.interrupt.ensures.due.stays c.if-interrupt.false in
    let m = machine_of c.args.guest.now c.args.memory.now in
    let between = machine_of c.enter_once.new.guest c.enter_once.new.memory in
    rw c.made_of.ensures
    (handled_counts m between (machine_of c.handle.new.guest c.handle.new.memory) c.handle.result c.args.tally.now c.enter_once.new.tally
    (none_made m between (rw same at c.in-Left.ensures.entered.run)) (rw same at c.in-Left.ensures.entered.account) c.handle.ensures.told.made)
