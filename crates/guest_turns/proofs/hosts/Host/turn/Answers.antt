use Rattle.std.proofs.Common.{subst}
use Rattle.guest_turns.specs.Account.{HasRoomForTurn}
use Rattle.guest_turns.proofs.Lending.{has_run, is_turn, lent}
use Rattle.guest_turns.proofs.hosts.Host.turn.Goals as goal

pub turn_of-requires-clause-hosted : goal.turn_of-requires-clause-hosted
turn_of-requires-clause-hosted c = (lent c.self.invariant c.self.view_is c.requires.can.guest c.index_mut-guest.ensures.value).hosted

pub turn_of-requires-clause-steps : goal.turn_of-requires-clause-steps
turn_of-requires-clause-steps c =
    let before = lent c.self.invariant c.self.view_is c.requires.can.guest c.index_mut-guest.ensures.value in
    rw before.machine at c.requires.can.steps

pub turn_of-requires-clause-room : goal.turn_of-requires-clause-room
turn_of-requires-clause-room c =
    let before = lent c.self.invariant c.self.view_is c.requires.can.guest c.index_mut-guest.ensures.value in
    subst (λ m. HasRoomForTurn m c.args.k c.args.tally.now) before.machine c.requires.can.room

pub invariant_of-self : goal.invariant_of-self
invariant_of-self c =
    (has_run c.self.invariant c.self.view_is c.requires.can.guest c.index_mut-guest.ensures.value c.turn_of.ensures.run).hosted

pub returns-clause-machines : goal.returns-clause-machines
returns-clause-machines c =
    (has_run c.self.invariant c.self.view_is c.requires.can.guest c.index_mut-guest.ensures.value c.turn_of.ensures.run).machines

pub returns-clause-shares : goal.returns-clause-shares
returns-clause-shares c =
    (has_run c.self.invariant c.self.view_is c.requires.can.guest c.index_mut-guest.ensures.value c.turn_of.ensures.run).shares

pub returns-clause-isolated : goal.returns-clause-isolated
returns-clause-isolated c =
    (has_run c.self.invariant c.self.view_is c.requires.can.guest c.index_mut-guest.ensures.value c.turn_of.ensures.run).isolated

pub returns-clause-made : goal.returns-clause-made
returns-clause-made c =
    let before = lent c.self.invariant c.self.view_is c.requires.can.guest c.index_mut-guest.ensures.value in
    let after = has_run c.self.invariant c.self.view_is c.requires.can.guest c.index_mut-guest.ensures.value c.turn_of.ensures.run in
    is_turn before.machine after.machine c.turn_of.ensures.run c.turn_of.ensures.counts

pub returns-clause-account : goal.returns-clause-account
returns-clause-account c =
    let before = lent c.self.invariant c.self.view_is c.requires.can.guest c.index_mut-guest.ensures.value in
    rw before.machine c.turn_of.ensures.account
