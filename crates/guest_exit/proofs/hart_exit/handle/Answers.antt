use Rattle.guest_exit.specs.View.{machine_of}
use Rattle.guest_exit.proofs.Alone.{part_kept, retries_exactly}
use Rattle.guest_exit.proofs.Entries.{left}
use Rattle.guest_exit.proofs.ExitCases.{handled_by, handled_waits}
use Rattle.guest_exit.proofs.hart_exit.handle.Goals as goal

pub returns-clause-does : goal.returns-clause-does
returns-clause-does c =
    let m = machine_of c.args.guest.now c.args.memory.now in
    let is = left c.args.guest.now.part c.args.guest.now.pool m c.args.memory.now c.args.trap c.requires.exited.can.placed c.requires.exited.hands in
    handled_by m (machine_of c.make.new.guest c.make.new.memory) _ c.make.result is c.make.ensures.makes

pub returns-clause-answers : goal.returns-clause-answers
returns-clause-answers c =
    let m = machine_of c.args.guest.now c.args.memory.now in
    let after = machine_of c.make.new.guest c.make.new.memory in
    let is = left c.args.guest.now.part c.args.guest.now.pool m c.args.memory.now c.args.trap c.requires.exited.can.placed c.requires.exited.hands in
    record {
      retry = retries_exactly m after c.make.result (returns-clause-does c);
      waits = handled_waits m after _ c.make.result c.requires.exited.can.step.running is c.make.ensures.makes c.make.ensures.told.status;
      stops = c.make.ensures.stops;
    }

pub returns-clause-tried : goal.returns-clause-tried
returns-clause-tried c =
    let m = machine_of c.args.guest.now c.args.memory.now in
    let is = left c.args.guest.now.part c.args.guest.now.pool m c.args.memory.now c.args.trap c.requires.exited.can.placed c.requires.exited.hands in
    record { quiet = rw is.step c.make.ensures.quiet; event = rw is.step c.make.ensures.event }

pub returns-clause-keeps : goal.returns-clause-keeps
returns-clause-keeps c =
    part_kept c.args.guest.now c.make.new.guest c.args.memory.now c.make.new.memory c.make.result c.requires.exited.can.placed c.make.ensures.within (returns-clause-does c)
