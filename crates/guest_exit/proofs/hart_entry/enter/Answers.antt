use Rattle.std.proofs.Common.{arith, sym, subst}
use Rattle.rv64_hart.specs.Steps.{is_vs_trap, progress}
use Rattle.guest_exit.specs.HartEntry.{IsStopped, is_watched}
use Rattle.guest_exit.specs.View.{machine_of}
use Rattle.guest_exit.proofs.EntryResults.{entered}
use Rattle.guest_exit.proofs.Entries.{none_taken, steps_from, stopped}
use Rattle.guest_exit.proofs.Moments.{before_timer}
use Rattle.guest_exit.proofs.hart_entry.enter.Goals as goal

pub returns-clause-hart : goal.returns-clause-hart
returns-clause-hart c =
    let guest = c.args.guest.now in
    let stop = c.run-stop.result in
    record {
      steps = steps_from (is_watched guest.virt) guest.part guest.pool guest.virt c.args.memory.now c.args.tally.now.trace stop.taken _
          (rw (c.load.ensures.has, c.root_frame_of-root.ensures, c.is_watched-watch.ensures) at c.run-stop.ensures.steps);
      saves = rw (c.is_vs_trap.ensures, c.state.ensures) at c.take_steps.ensures.platform;
    }

pub returns-clause-entered : goal.returns-clause-entered
returns-clause-entered c =
    entered c.args.guest.now c.take_steps.new.self c.args.memory.now c.run-stop.new.memory c.run-stop.new.self.state c.args.limit c.run-stop.result.taken (is_vs_trap c.run-stop.result.why)
    c.args.tally.now c.run-stop.new.tally c.requires.can c.run-stop.ensures.within (returns-clause-hart c).steps
    (record { saves = (returns-clause-hart c).saves; current = c.take_steps.ensures.current; goes = c.take_steps.ensures.goes })
    (record { entries = c.run-stop.ensures.entries; taken = c.run-stop.ensures.taken })

pub returns-clause-why : goal.returns-clause-why
returns-clause-why c =
    let part = c.args.guest.now.part in
    let pool = c.args.guest.now.pool in
    let before = machine_of c.args.guest.now c.args.memory.now in
    let can = c.requires.can in
    let why = c.run-stop.result.why in
    let is = stopped part pool before c.args.memory.now c.args.limit c.args.tally.now.trace c.run-stop.new.self.state c.run-stop.new.memory c.run-stop.new.tally.trace c.run-stop.result.taken why
    can.running can.lasts can.placed c.run-stop.ensures.within (returns-clause-hart c).steps c.run-stop.ensures.why in
    record {
      within = c.run-stop.ensures.within;
      why = subst (λ m. IsStopped part pool before m c.run-stop.new.memory c.args.limit c.run-stop.result.taken why) (sym (returns-clause-entered c).run.steps) is;
    }

pub take_steps-requires-clause-none : goal.take_steps-requires-clause-none
take_steps-requires-clause-none c = λ none.
    let guest = c.args.guest.now in
    let can = c.requires.can in
    let q = progress c.run-stop.new.self.state c.run-stop.new.memory c.run-stop.new.tally.trace (is_vs_trap c.run-stop.result.why) in
    rw (c.is_vs_trap.ensures, c.state.ensures)
    (none_taken (is_watched guest.virt) guest.part guest.pool (machine_of guest c.args.memory.now) c.args.memory.now c.args.limit c.args.tally.now.trace can.running can.lasts can.placed
    c.run-stop.result.taken c.run-stop.ensures.within q
    (steps_from (is_watched guest.virt) guest.part guest.pool guest.virt c.args.memory.now c.args.tally.now.trace c.run-stop.result.taken _
    (rw (c.load.ensures.has, c.root_frame_of-root.ensures, c.is_watched-watch.ensures) at c.run-stop.ensures.steps)) none)

pub take_steps-requires-clause-room : goal.take_steps-requires-clause-room
take_steps-requires-clause-room c = record {
  event = before_timer c.args.guest.now.clock c.args.limit c.run-stop.result.taken c.requires.can.lasts.timer c.run-stop.ensures.within;
  clock = omega (arith, c.requires.can.clock, c.requires.can.steps, c.run-stop.ensures.within);
  steps = omega (arith, c.requires.can.steps, c.run-stop.ensures.within);
}
