use Rattle.std.proofs.Common.{subst, sym}
use Rattle.guest_turns.specs.Hosting.{IsHosted}
use Rattle.guest_turns.proofs.Among.{active_of, among}
use Rattle.guest_turns.proofs.hosts.Host.access_next.Goals as goal

pub access_in-requires : goal.access_in-requires
access_in-requires c =
    let host = c.self.inside in
    let inside = among host.guests.items host.memory host.free host.retired _ c.args.g c.self.view_is c.requires.guest in
    subst (λ guest. IsHosted guest host.memory) (sym c.index-guest.ensures) (c.self.invariant.each c.args.g c.index-guest.result.now inside (active_of host.guests.items host.memory host.free host.retired _ c.args.g c.self.view_is c.requires.active))
