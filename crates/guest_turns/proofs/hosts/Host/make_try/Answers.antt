use Rattle.std.proofs.Common.{ap, arith, refl, sym, ◌∙◌}
use Rattle.machine_defs.specs.Machine.{Machine}
use Rattle.guest_exit.specs.View.{machine_of}
use Rattle.guest_turns.proofs.Lending.{has_changed, keeps_room, lent}
use Rattle.guest_turns.proofs.SingleTries.{counts_as, has_tried}
use Rattle.guest_turns.proofs.hosts.Host.make_try.Goals as goal

pub try_of-requires-clause-can : goal.try_of-requires-clause-can
try_of-requires-clause-can c =
    let can = c.requires.can in
    let before = lent c.self.invariant c.self.view_is can.guest c.index_mut-guest.ensures.value in
    record {
      step = record {
        running = ap (λ (m : Machine). m.platform.status) (sym before.machine) ∙ can.running;
        clock = before.hosted.clock;
        steps = rw before.machine at can.steps;
      };
      current = before.hosted.current;
      placed = before.hosted.placed;
    }

pub try_of-requires-clause-room : goal.try_of-requires-clause-room
try_of-requires-clause-room c = record { entries = c.requires.can.entries; taken = omega (arith, c.requires.can.taken) }

pub invariant_of-self : goal.invariant_of-self
invariant_of-self c =
    let next = machine_of c.try_of.new.guest c.try_of.new.memory in
    (has_changed c.self.invariant c.self.view_is c.requires.can.guest c.index_mut-guest.ensures.value c.try_of.ensures.stays (λ m. next) refl).hosted

pub returns-clause-machines : goal.returns-clause-machines
returns-clause-machines c =
    let before = lent c.self.invariant c.self.view_is c.requires.can.guest c.index_mut-guest.ensures.value in
    let next = machine_of c.try_of.new.guest c.try_of.new.memory in
    has_tried c.try_of.result c.args.g _ _ (machine_of c.index_mut-guest.result.now c.self.inside.memory) next before.machine c.try_of.ensures.tried
    (λ change is. (has_changed c.self.invariant c.self.view_is c.requires.can.guest c.index_mut-guest.ensures.value c.try_of.ensures.stays change is).machines)

pub returns-clause-shares : goal.returns-clause-shares
returns-clause-shares c =
    let next = machine_of c.try_of.new.guest c.try_of.new.memory in
    (has_changed c.self.invariant c.self.view_is c.requires.can.guest c.index_mut-guest.ensures.value c.try_of.ensures.stays (λ m. next) refl).shares

pub returns-clause-isolated : goal.returns-clause-isolated
returns-clause-isolated c =
    let next = machine_of c.try_of.new.guest c.try_of.new.memory in
    (has_changed c.self.invariant c.self.view_is c.requires.can.guest c.index_mut-guest.ensures.value c.try_of.ensures.stays (λ m. next) refl).isolated

pub returns-clause-room : goal.returns-clause-room
returns-clause-room c =
    let next = machine_of c.try_of.new.guest c.try_of.new.memory in
    let before = lent c.self.invariant c.self.view_is c.requires.can.guest c.index_mut-guest.ensures.value in
    let after = has_changed c.self.invariant c.self.view_is c.requires.can.guest c.index_mut-guest.ensures.value c.try_of.ensures.stays (λ m. next) refl in
    keeps_room before.machine after.machine before.hosted c.try_of.ensures.stays

pub returns-clause-account : goal.returns-clause-account
returns-clause-account c =
    let next = machine_of c.try_of.new.guest c.try_of.new.memory in
    let before = lent c.self.invariant c.self.view_is c.requires.can.guest c.index_mut-guest.ensures.value in
    let after = has_changed c.self.invariant c.self.view_is c.requires.can.guest c.index_mut-guest.ensures.value c.try_of.ensures.stays (λ m. next) refl in
    counts_as before.machine after.machine c.try_of.ensures.account
