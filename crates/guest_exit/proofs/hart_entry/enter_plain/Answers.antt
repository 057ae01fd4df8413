use Rattle.std.proofs.Common.{arith, false}
use Rattle.rv64_hart.specs.Steps.{progress}
use Rattle.rv64_hart.proofs.PlainSteps.{plain_is_steps}
use Rattle.guest_exit.specs.HartEntry.{is_watched}
use Rattle.guest_exit.specs.View.{loaded_for, machine_of}
use Rattle.guest_exit.proofs.EntryResults.{entered}
use Rattle.guest_exit.proofs.Entries.{none_taken}
use Rattle.guest_exit.proofs.Moments.{before_timer}
use Rattle.guest_exit.proofs.PlainEntries.{all_plain, plain_from}
use Rattle.guest_exit.proofs.hart_entry.enter_plain.Goals as goal

pub take_steps-requires-clause-none : goal.take_steps-requires-clause-none
take_steps-requires-clause-none c = λ none.
    let guest = c.args.guest.now in
    let can = c.requires.can in
    let watch = is_watched guest.virt in
    let q = progress c.run_plain-taken.new.self.state c.run_plain-taken.new.memory c.run_plain-taken.new.tally.trace false in
    let steps = plain_from guest.part guest.pool guest.virt c.args.memory.now c.args.tally.now.trace c.run_plain-taken.result q
    (rw (c.load.ensures.has, c.root_frame_of-root.ensures) at c.run_plain-taken.ensures.steps) in
    rw c.state.ensures
    (none_taken watch guest.part guest.pool (machine_of guest c.args.memory.now) c.args.memory.now c.args.limit c.args.tally.now.trace can.running can.lasts can.placed
    c.run_plain-taken.result c.run_plain-taken.ensures.within q
    (plain_is_steps watch c.run_plain-taken.result (progress (loaded_for guest) c.args.memory.now c.args.tally.now.trace false) q steps) none)

pub take_steps-requires-clause-room : goal.take_steps-requires-clause-room
take_steps-requires-clause-room c = record {
  event = before_timer c.args.guest.now.clock c.args.limit c.run_plain-taken.result c.requires.can.lasts.timer c.run_plain-taken.ensures.within;
  clock = omega (arith, c.requires.can.clock, c.requires.can.steps, c.run_plain-taken.ensures.within);
  steps = omega (arith, c.requires.can.steps, c.run_plain-taken.ensures.within);
}

pub returns-clause-plain : goal.returns-clause-plain
returns-clause-plain c =
    let guest = c.args.guest.now in
    let can = c.requires.can in
    let q = progress c.run_plain-taken.new.self.state c.run_plain-taken.new.memory c.run_plain-taken.new.tally.trace false in
    all_plain guest.part guest.pool (machine_of guest c.args.memory.now) c.args.memory.now c.args.limit c.args.tally.now.trace can.running can.lasts can.placed
    c.run_plain-taken.result c.run_plain-taken.ensures.within q
    (plain_from guest.part guest.pool guest.virt c.args.memory.now c.args.tally.now.trace c.run_plain-taken.result q
    (rw (c.load.ensures.has, c.root_frame_of-root.ensures) at c.run_plain-taken.ensures.steps))

pub returns-clause-entered : goal.returns-clause-entered
returns-clause-entered c =
    let guest = c.args.guest.now in
    let taken = c.run_plain-taken.result in
    let q = progress c.run_plain-taken.new.self.state c.run_plain-taken.new.memory c.run_plain-taken.new.tally.trace false in
    let steps = plain_from guest.part guest.pool guest.virt c.args.memory.now c.args.tally.now.trace taken q
    (rw (c.load.ensures.has, c.root_frame_of-root.ensures) at c.run_plain-taken.ensures.steps) in
    entered guest c.take_steps.new.self c.args.memory.now c.run_plain-taken.new.memory c.run_plain-taken.new.self.state c.args.limit taken false
    c.args.tally.now c.run_plain-taken.new.tally c.requires.can c.run_plain-taken.ensures.within
    (plain_is_steps (is_watched guest.virt) taken (progress (loaded_for guest) c.args.memory.now c.args.tally.now.trace false) q steps)
    (record { saves = rw c.state.ensures at c.take_steps.ensures.platform; current = c.take_steps.ensures.current; goes = c.take_steps.ensures.goes })
    (record { entries = c.run_plain-taken.ensures.entries; taken = c.run_plain-taken.ensures.taken })
