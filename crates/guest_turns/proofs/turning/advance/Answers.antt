use Rattle.std.proofs.Common.{◌+◌, ◌^◌, ◌<◌, ◌≤◌, ◌∙◌, ap, sym, arith}
use Rattle.arch_defs.proofs.FrameSets.{only_none}
use Rattle.guest_exit.proofs.Alone.{only_of_blocks, stays_by}
use Rattle.guest_exit.specs.View.{changed_by, machine_of}
use Rattle.guest_turns.proofs.CalmSteps.{first_calm, no_calm_trap}
use Rattle.guest_turns.proofs.Current.{after_step}
use Rattle.guest_turns.proofs.Parts.{entered_account, entered_counts, entered_part, handed_account, handed_current, handed_part, interrupt_part}
use Rattle.guest_turns.proofs.Placing.{fixed_both, only_then}
use Rattle.guest_turns.proofs.Turns.{accounted_part, made_at_most, made_if_running, used_at_most}
use Rattle.guest_turns.proofs.turning.advance.Goals as goal

-- an interrupt that the host takes
pub returns-then-interrupt-clause-advances : goal.returns-then-interrupt-clause-advances
returns-then-interrupt-clause-advances c =
    let part = interrupt_part c.args.guest.now c.interrupt.new.guest c.args.memory.now c.args.left c.requires.can.hosted c.requires.can.running c.requires.can.some
    ((c.interrupt.ensures.due.takes c.if-interrupt.true).step c.args.memory.now) in
    record {
      goes = part.goes;
      keeps = stays_by c.args.guest.now c.interrupt.new.guest c.interrupt.ensures.keeps;
      only = only_none (changed_by c.args.guest.now) c.args.memory.now;
    }

pub returns-then-interrupt-clause-hosted : goal.returns-then-interrupt-clause-hosted
returns-then-interrupt-clause-hosted c = record {
  placed = c.interrupt.ensures.placed c.args.memory.now c.requires.can.hosted.placed;
  clock = omega (arith, c.requires.can.hosted.clock, (c.interrupt.ensures.due.takes c.if-interrupt.true).made, (c.interrupt.ensures.due.takes c.if-interrupt.true).clock);
  current =
      after_step (machine_of c.args.guest.now c.args.memory.now) (machine_of c.interrupt.new.guest c.args.memory.now) c.requires.can.hosted.current
      ((c.interrupt.ensures.due.takes c.if-interrupt.true).step c.args.memory.now);
}

pub returns-then-interrupt-clause-counts : goal.returns-then-interrupt-clause-counts
returns-then-interrupt-clause-counts c =
    let made = (c.interrupt.ensures.due.takes c.if-interrupt.true).made in
    record {
      within = omega arith;
      forward = omega (arith, made);
      made = omega (arith, made, c.requires.can.some);
      others = λ _. omega (arith, made, c.requires.can.some);
    }

pub returns-then-interrupt-clause-account : goal.returns-then-interrupt-clause-account
returns-then-interrupt-clause-account c =
    let takes = c.interrupt.ensures.due.takes c.if-interrupt.true in
    let part = interrupt_part c.args.guest.now c.interrupt.new.guest c.args.memory.now c.args.left c.requires.can.hosted c.requires.can.running c.requires.can.some
    (takes.step c.args.memory.now) in
    let quiet = takes.quiet c.args.memory.now in
    accounted_part _ _ _ _ _ c.args.tally.now c.args.tally.now c.requires.can.some part (record {
      entries_grow = omega arith;
      entries_most = omega arith;
      none = λ same. takes.none c.args.memory.now;
      taken_least = omega (arith, quiet.plain);
      taken_most = omega (arith, takes.made);
      trace = rw quiet.trace (omega arith);
    }) (λ calm. absurd (omega (arith, quiet.plain, (first_calm (machine_of c.args.guest.now c.args.memory.now) c.args.left c.requires.can.some calm).plain)))

-- an entry that the hart ends itself, at the limit
pub returns-in-Limit-clause-advances : goal.returns-in-Limit-clause-advances
returns-in-Limit-clause-advances c =
    let some : 0 < c.enter-stop.result.taken = omega (arith, rw c.in-Limit.is at c.enter-stop.ensures.why.why, c.limit.ensures.longest.some) in
    let few : c.enter-stop.result.taken ≤ c.args.left = omega (arith, c.enter-stop.ensures.why.within, c.limit.ensures.longest.most) in
    let part = entered_part c.args.guest.now c.interrupt.new.guest c.enter-stop.new.guest c.args.memory.now c.enter-stop.new.memory c.args.left c.enter-stop.result.taken
    c.requires.can.hosted (c.interrupt.ensures.due.stays c.if-interrupt.false) some few c.enter-stop.ensures.entered.run.ready c.enter-stop.ensures.entered.run.steps in
    record {
      goes = part.goes;
      keeps =
          fixed_both c.args.guest.now c.interrupt.new.guest c.enter-stop.new.guest (stays_by c.args.guest.now c.interrupt.new.guest c.interrupt.ensures.keeps)
          (stays_by c.interrupt.new.guest c.enter-stop.new.guest c.enter-stop.ensures.entered.keeps.keeps);
      only =
          rw (c.interrupt.ensures.due.stays c.if-interrupt.false) at
          (only_of_blocks c.interrupt.new.guest c.args.memory.now c.enter-stop.new.memory c.enter-stop.ensures.entered.keeps.only);
    }

pub returns-in-Limit-clause-hosted : goal.returns-in-Limit-clause-hosted
returns-in-Limit-clause-hosted c =
    let before : c.interrupt.new.guest.clock.time ≤ 2 ^ 62 + c.interrupt.new.guest.steps = rw (c.interrupt.ensures.due.stays c.if-interrupt.false) c.requires.can.hosted.clock in
    record {
      placed = c.enter-stop.ensures.entered.keeps.placed;
      clock = omega (arith, before, c.enter-stop.ensures.entered.goes.clock, c.enter-stop.ensures.entered.goes.steps);
      current = c.enter-stop.ensures.entered.goes.current;
    }

pub returns-in-Limit-clause-counts : goal.returns-in-Limit-clause-counts
returns-in-Limit-clause-counts c =
    let few : c.enter-stop.result.taken ≤ c.args.left = omega (arith, c.enter-stop.ensures.why.within, c.limit.ensures.longest.most) in
    entered_counts c.args.guest.now c.interrupt.new.guest c.enter-stop.new.guest c.args.left c.enter-stop.result.taken
    (c.interrupt.ensures.due.stays c.if-interrupt.false) few c.enter-stop.ensures.entered.goes.steps

pub returns-in-Limit-clause-account : goal.returns-in-Limit-clause-account
returns-in-Limit-clause-account c =
    let m = machine_of c.args.guest.now c.args.memory.now in
    let some : 0 < c.enter-stop.result.taken = omega (arith, rw c.in-Limit.is at c.enter-stop.ensures.why.why, c.limit.ensures.longest.some) in
    let few : c.enter-stop.result.taken ≤ c.args.left = omega (arith, c.enter-stop.ensures.why.within, c.limit.ensures.longest.most) in
    let same = c.interrupt.ensures.due.stays c.if-interrupt.false in
    let part = entered_part c.args.guest.now c.interrupt.new.guest c.enter-stop.new.guest c.args.memory.now c.enter-stop.new.memory c.args.left c.enter-stop.result.taken
    c.requires.can.hosted same some few c.enter-stop.ensures.entered.run.ready c.enter-stop.ensures.entered.run.steps in
    entered_account c.args.guest.now c.interrupt.new.guest c.enter-stop.new.guest c.args.memory.now c.enter-stop.new.memory c.args.left c.enter-stop.result.taken
    c.args.tally.now c.enter-stop.new.tally c.requires.can.some same part c.enter-stop.ensures.entered.account c.enter-stop.ensures.entered.goes.steps (λ calm.
    let most = c.limit.ensures.longest.largest c.args.left (omega arith) (rw same (calm.lasts c.requires.can.some)) in
    omega (arith, rw c.in-Limit.is at c.enter-stop.ensures.why.why, most))

-- and after a trap into VS
pub returns-in-VsTrap-clause-advances : goal.returns-in-VsTrap-clause-advances
returns-in-VsTrap-clause-advances c =
    let ends = rw c.in-VsTrap.is at c.enter-stop.ensures.why.why in
    let some : 0 < c.enter-stop.result.taken = ends.some in
    let few : c.enter-stop.result.taken ≤ c.args.left = omega (arith, c.enter-stop.ensures.why.within, c.limit.ensures.longest.most) in
    let part = entered_part c.args.guest.now c.interrupt.new.guest c.enter-stop.new.guest c.args.memory.now c.enter-stop.new.memory c.args.left c.enter-stop.result.taken
    c.requires.can.hosted (c.interrupt.ensures.due.stays c.if-interrupt.false) some few c.enter-stop.ensures.entered.run.ready c.enter-stop.ensures.entered.run.steps in
    record {
      goes = part.goes;
      keeps =
          fixed_both c.args.guest.now c.interrupt.new.guest c.enter-stop.new.guest (stays_by c.args.guest.now c.interrupt.new.guest c.interrupt.ensures.keeps)
          (stays_by c.interrupt.new.guest c.enter-stop.new.guest c.enter-stop.ensures.entered.keeps.keeps);
      only =
          rw (c.interrupt.ensures.due.stays c.if-interrupt.false) at
          (only_of_blocks c.interrupt.new.guest c.args.memory.now c.enter-stop.new.memory c.enter-stop.ensures.entered.keeps.only);
    }

pub returns-in-VsTrap-clause-hosted : goal.returns-in-VsTrap-clause-hosted
returns-in-VsTrap-clause-hosted c =
    let before : c.interrupt.new.guest.clock.time ≤ 2 ^ 62 + c.interrupt.new.guest.steps = rw (c.interrupt.ensures.due.stays c.if-interrupt.false) c.requires.can.hosted.clock in
    record {
      placed = c.enter-stop.ensures.entered.keeps.placed;
      clock = omega (arith, before, c.enter-stop.ensures.entered.goes.clock, c.enter-stop.ensures.entered.goes.steps);
      current = c.enter-stop.ensures.entered.goes.current;
    }

pub returns-in-VsTrap-clause-counts : goal.returns-in-VsTrap-clause-counts
returns-in-VsTrap-clause-counts c =
    let few : c.enter-stop.result.taken ≤ c.args.left = omega (arith, c.enter-stop.ensures.why.within, c.limit.ensures.longest.most) in
    entered_counts c.args.guest.now c.interrupt.new.guest c.enter-stop.new.guest c.args.left c.enter-stop.result.taken
    (c.interrupt.ensures.due.stays c.if-interrupt.false) few c.enter-stop.ensures.entered.goes.steps

pub returns-in-VsTrap-clause-account : goal.returns-in-VsTrap-clause-account
returns-in-VsTrap-clause-account c =
    let m = machine_of c.args.guest.now c.args.memory.now in
    let ends = rw c.in-VsTrap.is at c.enter-stop.ensures.why.why in
    let some : 0 < c.enter-stop.result.taken = ends.some in
    let few : c.enter-stop.result.taken ≤ c.args.left = omega (arith, c.enter-stop.ensures.why.within, c.limit.ensures.longest.most) in
    let same = c.interrupt.ensures.due.stays c.if-interrupt.false in
    let part = entered_part c.args.guest.now c.interrupt.new.guest c.enter-stop.new.guest c.args.memory.now c.enter-stop.new.memory c.args.left c.enter-stop.result.taken
    c.requires.can.hosted same some few c.enter-stop.ensures.entered.run.ready c.enter-stop.ensures.entered.run.steps in
    entered_account c.args.guest.now c.interrupt.new.guest c.enter-stop.new.guest c.args.memory.now c.enter-stop.new.memory c.args.left c.enter-stop.result.taken
    c.args.tally.now c.enter-stop.new.tally c.requires.can.some same part c.enter-stop.ensures.entered.account c.enter-stop.ensures.entered.goes.steps (λ calm.
    absurd (no_calm_trap m c.args.left c.enter-stop.result.taken calm few (rw same at ends)))

-- an entry after which the host makes the next step, or fills a cached translation
pub returns-in-Exit-clause-advances : goal.returns-in-Exit-clause-advances
returns-in-Exit-clause-advances c =
    let some : c.enter-stop.result.taken < c.args.left = omega (arith, (rw c.in-Exit.is at c.enter-stop.ensures.why.why).0, c.limit.ensures.longest.most) in
    let part = handed_part c.args.guest.now c.interrupt.new.guest c.enter-stop.new.guest c.handle-made.new.guest c.args.memory.now c.enter-stop.new.memory c.handle-made.new.memory
    c.args.left c.enter-stop.result.taken c.handle-made.result c.requires.can.hosted (c.interrupt.ensures.due.stays c.if-interrupt.false) some c.enter-stop.ensures.entered.run.ready
    c.enter-stop.ensures.entered.run.steps c.enter-stop.ensures.entered.goes.status c.handle-made.ensures.does.step c.handle-made.ensures.does.fill in
    let entered =
    fixed_both c.args.guest.now c.interrupt.new.guest c.enter-stop.new.guest (stays_by c.args.guest.now c.interrupt.new.guest c.interrupt.ensures.keeps)
    (stays_by c.interrupt.new.guest c.enter-stop.new.guest c.enter-stop.ensures.entered.keeps.keeps) in
    let only = rw (c.interrupt.ensures.due.stays c.if-interrupt.false) at
    (only_of_blocks c.interrupt.new.guest c.args.memory.now c.enter-stop.new.memory c.enter-stop.ensures.entered.keeps.only) in
    record {
      goes = rw c.used.ensures part.goes;
      keeps = fixed_both c.args.guest.now c.enter-stop.new.guest c.handle-made.new.guest entered c.handle-made.ensures.keeps.keeps;
      only =
          only_then c.args.guest.now c.enter-stop.new.guest c.handle-made.new.guest c.args.memory.now c.enter-stop.new.memory c.handle-made.new.memory entered only
          c.handle-made.ensures.keeps.only;
    }

pub returns-in-Exit-clause-hosted : goal.returns-in-Exit-clause-hosted
returns-in-Exit-clause-hosted c = record {
  placed = c.handle-made.ensures.keeps.placed;
  clock = c.handle-made.ensures.told.clock;
  current =
      handed_current c.enter-stop.new.guest c.handle-made.new.guest c.enter-stop.new.memory c.handle-made.new.memory c.handle-made.result c.enter-stop.ensures.entered.goes.current
      c.handle-made.ensures.does.step c.handle-made.ensures.does.fill;
}

pub returns-in-Exit-clause-counts : goal.returns-in-Exit-clause-counts
returns-in-Exit-clause-counts c =
    let some : c.enter-stop.result.taken < c.args.left = omega (arith, (rw c.in-Exit.is at c.enter-stop.ensures.why.why).0, c.limit.ensures.longest.most) in
    let before = ap (λ guest. guest.steps) (c.interrupt.ensures.due.stays c.if-interrupt.false) in
    let most = made_at_most c.handle-made.result in
    let one = used_at_most c.handle-made.result in
    record {
      within = omega (arith, some, one, c.used.ensures);
      forward = omega (arith, before, c.enter-stop.ensures.entered.goes.steps, c.handle-made.ensures.told.made);
      made = omega (arith, some, before, c.enter-stop.ensures.entered.goes.steps, c.handle-made.ensures.told.made, most, one, c.used.ensures);
      others = λ running.
          let same = made_if_running c.handle-made.result (sym c.handle-made.ensures.told.status ∙ running) in
          omega (arith, some, before, c.enter-stop.ensures.entered.goes.steps, c.handle-made.ensures.told.made, same, one, c.used.ensures);
    }

pub returns-in-Exit-clause-account : goal.returns-in-Exit-clause-account
returns-in-Exit-clause-account c =
    let some : c.enter-stop.result.taken < c.args.left = omega (arith, (rw c.in-Exit.is at c.enter-stop.ensures.why.why).0, c.limit.ensures.longest.most) in
    let same = c.interrupt.ensures.due.stays c.if-interrupt.false in
    let part = handed_part c.args.guest.now c.interrupt.new.guest c.enter-stop.new.guest c.handle-made.new.guest c.args.memory.now c.enter-stop.new.memory c.handle-made.new.memory
    c.args.left c.enter-stop.result.taken c.handle-made.result c.requires.can.hosted same some c.enter-stop.ensures.entered.run.ready
    c.enter-stop.ensures.entered.run.steps c.enter-stop.ensures.entered.goes.status c.handle-made.ensures.does.step c.handle-made.ensures.does.fill in
    rw c.used.ensures (handed_account c.args.guest.now c.interrupt.new.guest c.enter-stop.new.guest c.handle-made.new.guest c.args.memory.now c.enter-stop.new.memory
    c.handle-made.new.memory c.args.left c.enter-stop.result.taken c.handle-made.result c.args.tally.now c.enter-stop.new.tally same part
    c.enter-stop.ensures.entered.account c.handle-made.ensures.tried.quiet (omega (arith, c.enter-stop.ensures.entered.goes.steps, c.handle-made.ensures.told.made))
    some c.enter-stop.ensures.entered.run.steps)
