use Rattle.std.proofs.Common.{subst}
use Rattle.guest_turns.specs.PlainRuns.{HasRoomForPlainRun}
use Rattle.guest_turns.proofs.Lending.{has_run, lent}
use Rattle.guest_turns.proofs.hosts.Host.run_plain.Goals as goal

pub plain_run_of-requires-clause-hosted : goal.plain_run_of-requires-clause-hosted
plain_run_of-requires-clause-hosted c = (lent c.self.invariant c.self.view_is c.requires.can.guest c.index_mut-guest.ensures.value).hosted

pub plain_run_of-requires-clause-room : goal.plain_run_of-requires-clause-room
plain_run_of-requires-clause-room c =
    let before = lent c.self.invariant c.self.view_is c.requires.can.guest c.index_mut-guest.ensures.value in
    subst (λ m. HasRoomForPlainRun m c.args.k c.args.tally.now) before.machine c.requires.can.room

pub invariant_of-self : goal.invariant_of-self
invariant_of-self c =
    (has_run c.self.invariant c.self.view_is c.requires.can.guest c.index_mut-guest.ensures.value c.plain_run_of.ensures.run).hosted

pub returns-clause-machines : goal.returns-clause-machines
returns-clause-machines c =
    (has_run c.self.invariant c.self.view_is c.requires.can.guest c.index_mut-guest.ensures.value c.plain_run_of.ensures.run).machines

pub returns-clause-shares : goal.returns-clause-shares
returns-clause-shares c =
    (has_run c.self.invariant c.self.view_is c.requires.can.guest c.index_mut-guest.ensures.value c.plain_run_of.ensures.run).shares

pub returns-clause-isolated : goal.returns-clause-isolated
returns-clause-isolated c =
    (has_run c.self.invariant c.self.view_is c.requires.can.guest c.index_mut-guest.ensures.value c.plain_run_of.ensures.run).isolated

pub returns-clause-plain : goal.returns-clause-plain
returns-clause-plain c =
    let before = lent c.self.invariant c.self.view_is c.requires.can.guest c.index_mut-guest.ensures.value in
    rw before.machine c.plain_run_of.ensures.plain

pub returns-clause-account : goal.returns-clause-account
returns-clause-account c =
    let before = lent c.self.invariant c.self.view_is c.requires.can.guest c.index_mut-guest.ensures.value in
    rw before.machine c.plain_run_of.ensures.account
