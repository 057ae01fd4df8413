use Rattle.std.proofs.Common.{true, set, arith, refl, subst, sym}
use Rattle.guest_turns.specs.Hosting.{IsHosted}
use Rattle.guest_turns.proofs.Among.{active_of, among}
use Rattle.guest_turns.proofs.Leaving.{has_retired, still_hosted}
use Rattle.guest_turns.proofs.hosts.Host.retire.Goals as goal

pub vacate-requires : goal.vacate-requires
vacate-requires c =
    let host = c.self.inside in
    let inside = among host.guests.items host.memory host.free host.retired _ c.args.g c.self.view_is c.requires.guest in
    let active = active_of host.guests.items host.memory host.free host.retired _ c.args.g c.self.view_is c.requires.active in
    subst (λ guest. IsHosted guest host.memory) (sym c.index_mut-guest.ensures.value) (c.self.invariant.each c.args.g c.index_mut-guest.result.now inside active)

pub invariant_of-self : goal.invariant_of-self
invariant_of-self c =
    let host = c.self.inside in
    let inside = among host.guests.items host.memory host.free host.retired _ c.args.g c.self.view_is c.requires.guest in
    let active = active_of host.guests.items host.memory host.free host.retired _ c.args.g c.self.view_is c.requires.active in
    still_hosted host.guests.items host.retired host.free host.memory c.self.invariant c.args.g inside active (omega (arith, c.self.told)) c.has_each_block.ensures c.index_mut-guest.result.now c.vacate.new.guest c.vacate.new.memory c.vacate.new.free (set host.retired c.args.g true) c.index_mut-guest.ensures.value c.vacate.ensures.guest c.vacate.ensures.free refl c.vacate.ensures.zeros c.vacate.ensures.only

pub returns : goal.returns
returns c =
    let host = c.self.inside in
    let inside = among host.guests.items host.memory host.free host.retired _ c.args.g c.self.view_is c.requires.guest in
    let active = active_of host.guests.items host.memory host.free host.retired _ c.args.g c.self.view_is c.requires.active in
    has_retired host.guests.items host.retired host.free host.memory c.self.invariant c.args.g inside active (omega (arith, c.self.told)) c.has_each_block.ensures c.index_mut-guest.result.now c.vacate.new.guest c.vacate.new.memory c.vacate.new.free (set host.retired c.args.g true) c.index_mut-guest.ensures.value c.vacate.ensures.guest c.vacate.ensures.free refl c.vacate.ensures.zeros c.vacate.ensures.only c.args.self.now c.self.view_is
