use Rattle.std.proofs.Common.{subst, sym, ◌∙◌}
use Rattle.guest_turns.specs.Hosting.{IsHosted}
use Rattle.guest_turns.proofs.Among.{active_of, among, host_machine}
use Rattle.guest_turns.proofs.hosts.Host.view.Goals as goal

pub of-requires : goal.of-requires
of-requires c =
    let host = c.self.inside in
    let inside = among host.guests.items host.memory host.free host.retired _ c.args.g c.self.view_is c.requires.guest in
    subst (λ guest. IsHosted guest host.memory) (sym c.index.ensures) (c.self.invariant.each c.args.g c.index.result.now inside (active_of host.guests.items host.memory host.free host.retired _ c.args.g c.self.view_is c.requires.active))

pub returns : goal.returns
returns c =
    let host = c.self.inside in
    let inside = among host.guests.items host.memory host.free host.retired _ c.args.g c.self.view_is c.requires.guest in
    c.of.ensures ∙ sym (host_machine host.guests.items host.memory host.free host.retired _ c.args.g c.index.result.now c.self.view_is inside c.index.ensures)
