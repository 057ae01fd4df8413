use Rattle.std.proofs.Common.{◌≡◌, subst, sym}
use Rattle.guest_turns.specs.Hosting.{IsHosted}
use Rattle.guest_turns.proofs.Among.{active_of, among, host_machine}
use Rattle.machine_defs.specs.Machine.{Machine, with_pending_lines}
use Rattle.guest_turns.proofs.hosts.Host.lines_are_set.Goals as goal

pub returns : goal.returns
returns c =
    let host = c.self.inside in
    let inside = among host.guests.items host.memory host.free host.retired _ c.args.g c.self.view_is c.requires.guest in
    let hosted = subst (λ guest. IsHosted guest host.memory) (sym c.index-guest.ensures) (c.self.invariant.each c.args.g c.index-guest.result.now inside
    (active_of host.guests.items host.memory host.free host.retired _ c.args.g c.self.view_is c.requires.active)) in
    subst (λ (m : Machine). with_pending_lines m.platform ≡ m.platform)
    (sym (host_machine host.guests.items host.memory host.free host.retired _ c.args.g c.index-guest.result.now c.self.view_is inside c.index-guest.ensures)) hosted.current
