use Rattle.std.proofs.Common.{◌≡◌, arith, refl, true}
use Rattle.rv64_hart.specs.Steps.{is_vs_trap, progress}
use Rattle.guest_exit.specs.View.{machine_of}
use Rattle.guest_exit.proofs.Entries.{none_taken, steps_from}
use Rattle.guest_exit.proofs.Moments.{before_timer}
use Rattle.guest_exit.proofs.SingleEntries.{MakesOnce, entered_once, left_once, one_once, shown_once}
use Rattle.guest_exit.proofs.StepEvents.{other_shown, trap_shown}
use Rattle.guest_exit.proofs.hart_entry.enter_once.Goals as goal

pub take_steps-requires-clause-room : goal.take_steps-requires-clause-room
take_steps-requires-clause-room c = record {
  event = before_timer c.args.guest.now.clock 1 c.run-stop.result.taken c.requires.can.lasts.timer c.run-stop.ensures.within;
  clock = omega (arith, c.requires.can.clock, c.requires.can.steps, c.run-stop.ensures.within);
  steps = omega (arith, c.requires.can.steps, c.run-stop.ensures.within);
}

pub take_steps-requires-clause-none : goal.take_steps-requires-clause-none
take_steps-requires-clause-none c = λ none.
    let guest = c.args.guest.now in
    let can = c.requires.can in
    let q = progress c.run-stop.new.self.state c.run-stop.new.memory c.run-stop.new.tally.trace (is_vs_trap c.run-stop.result.why) in
    rw (c.is_vs_trap.ensures, c.state.ensures)
    (none_taken true guest.part guest.pool (machine_of guest c.args.memory.now) c.args.memory.now 1 c.args.tally.now.trace can.running can.lasts can.placed
    c.run-stop.result.taken c.run-stop.ensures.within q
    (steps_from true guest.part guest.pool guest.virt c.args.memory.now c.args.tally.now.trace c.run-stop.result.taken _
    (rw (c.load.ensures.has, c.root_frame_of-root.ensures) at c.run-stop.ensures.steps)) none)

-- at the limit one step is made
pub returns-in-Limit-clause-entered : goal.returns-in-Limit-clause-entered
returns-in-Limit-clause-entered c =
    entered_once c.args.guest.now c.take_steps.new.self c.args.memory.now c.run-stop.new.memory c.run-stop.new.self.state c.run-stop.result.taken 1 (is_vs_trap c.run-stop.result.why)
    c.args.tally.now c.run-stop.new.tally c.requires.can
    (record { few = c.run-stop.ensures.within; steps = rw (c.load.ensures.has, c.root_frame_of-root.ensures) at c.run-stop.ensures.steps })
    (rw c.in-Limit.is at c.run-stop.ensures.why)
    (record { saves = rw (c.is_vs_trap.ensures, c.state.ensures) at c.take_steps.ensures.platform; current = c.take_steps.ensures.current; goes = c.take_steps.ensures.goes })
    (record { entries = c.run-stop.ensures.entries; taken = c.run-stop.ensures.taken })

pub returns-in-Limit-clause-event : goal.returns-in-Limit-clause-event
returns-in-Limit-clause-event c =
    let q = progress c.run-stop.new.self.state c.run-stop.new.memory c.run-stop.new.tally.trace (is_vs_trap c.run-stop.result.why) in
    let is = shown_once c.args.guest.now c.args.memory.now c.args.tally.now.trace c.run-stop.result.taken q c.requires.can
    (record { few = c.run-stop.ensures.within; steps = rw (c.load.ensures.has, c.root_frame_of-root.ensures) at c.run-stop.ensures.steps }) (rw c.in-Limit.is at c.run-stop.ensures.why) in
    other_shown (machine_of c.args.guest.now c.args.memory.now) c.args.tally.now.trace _ q c.event_by.result is (rw c.in-Limit.is refl) c.requires.can.placed.storable.pc.0
    (omega (arith, c.trace-trace.ensures.trace, c.trace-trace.ensures.small))
    (omega (arith, c.trace-trace.ensures.trace, c.trace-trace.ensures.small, c.trace.ensures.trace, c.trace.ensures.small)) (omega arith)
    (record { system = c.event_by.ensures.system; plain = c.event_by.ensures.plain })

-- and so it is before a trap into VS
pub returns-in-VsTrap-clause-entered : goal.returns-in-VsTrap-clause-entered
returns-in-VsTrap-clause-entered c =
    let q = progress c.run-stop.new.self.state c.run-stop.new.memory c.run-stop.new.tally.trace (is_vs_trap c.run-stop.result.why) in
    let made : MakesOnce c.args.guest.now c.args.memory.now c.args.tally.now.trace c.run-stop.result.taken q = record { few = c.run-stop.ensures.within; steps = rw (c.load.ensures.has, c.root_frame_of-root.ensures) at c.run-stop.ensures.steps } in
    let one = one_once c.args.guest.now c.args.memory.now c.args.tally.now.trace c.run-stop.result.taken q made (rw c.in-VsTrap.is refl) in
    entered_once c.args.guest.now c.take_steps.new.self c.args.memory.now c.run-stop.new.memory c.run-stop.new.self.state c.run-stop.result.taken 1 (is_vs_trap c.run-stop.result.why)
    c.args.tally.now c.run-stop.new.tally c.requires.can made one
    (record { saves = rw (c.is_vs_trap.ensures, c.state.ensures) at c.take_steps.ensures.platform; current = c.take_steps.ensures.current; goes = c.take_steps.ensures.goes })
    (record { entries = c.run-stop.ensures.entries; taken = c.run-stop.ensures.taken })

pub returns-in-VsTrap-clause-event : goal.returns-in-VsTrap-clause-event
returns-in-VsTrap-clause-event c =
    let q = progress c.run-stop.new.self.state c.run-stop.new.memory c.run-stop.new.tally.trace (is_vs_trap c.run-stop.result.why) in
    let made : MakesOnce c.args.guest.now c.args.memory.now c.args.tally.now.trace c.run-stop.result.taken q = record { few = c.run-stop.ensures.within; steps = rw (c.load.ensures.has, c.root_frame_of-root.ensures) at c.run-stop.ensures.steps } in
    let one = one_once c.args.guest.now c.args.memory.now c.args.tally.now.trace c.run-stop.result.taken q made (rw c.in-VsTrap.is refl) in
    rw (c.hosted_level-level.ensures, c.is_interrupted-interrupt.ensures)
    (trap_shown (machine_of c.args.guest.now c.args.memory.now) c.args.tally.now.trace q
    (shown_once c.args.guest.now c.args.memory.now c.args.tally.now.trace c.run-stop.result.taken q c.requires.can made one) (rw c.in-VsTrap.is refl))

-- a step that the hart leaves is not made
pub returns-in-Exit-clause-entered : goal.returns-in-Exit-clause-entered
returns-in-Exit-clause-entered c =
    let none : c.run-stop.result.taken ≡ 0 = omega (arith, (rw c.in-Exit.is at c.run-stop.ensures.why).0) in
    entered_once c.args.guest.now c.take_steps.new.self c.args.memory.now c.run-stop.new.memory c.run-stop.new.self.state c.run-stop.result.taken 0 (is_vs_trap c.run-stop.result.why)
    c.args.tally.now c.run-stop.new.tally c.requires.can
    (record { few = c.run-stop.ensures.within; steps = rw (c.load.ensures.has, c.root_frame_of-root.ensures) at c.run-stop.ensures.steps })
    none
    (record { saves = rw (c.is_vs_trap.ensures, c.state.ensures) at c.take_steps.ensures.platform; current = c.take_steps.ensures.current; goes = c.take_steps.ensures.goes })
    (record { entries = c.run-stop.ensures.entries; taken = c.run-stop.ensures.taken })

pub returns-in-Exit-clause-event : goal.returns-in-Exit-clause-event
returns-in-Exit-clause-event c =
    let why = rw c.in-Exit.is at c.run-stop.ensures.why in
    left_once c.args.guest.now c.take_steps.new.self c.args.memory.now c.run-stop.new.memory c.run-stop.new.self.state c.args.tally.now.trace c.run-stop.new.tally.trace
    c.run-stop.result.taken c.in-Exit.trap c.requires.can
    (record { few = c.run-stop.ensures.within; steps = rw (c.load.ensures.has, c.root_frame_of-root.ensures, c.in-Exit.is) at c.run-stop.ensures.steps })
    why.0 why.1 (returns-in-Exit-clause-entered c).run
