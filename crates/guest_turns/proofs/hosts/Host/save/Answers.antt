use Rattle.std.proofs.Common.{subst, sym, ◌∙◌}
use Rattle.std.specs.Prelude.{is_ok}
use Rattle.guest_save.specs.Forms.{form}
use Rattle.outside.specs.Pieces.{Puts}
use Rattle.guest_turns.specs.Hosting.{IsHosted}
use Rattle.guest_turns.proofs.Among.{active_of, among, host_machine}
use Rattle.guest_turns.proofs.hosts.Host.save.Goals as goal

pub of-view-requires : goal.of-view-requires
of-view-requires g c =
    let host = c.self.inside in
    let inside = among host.guests.items host.memory host.free host.retired _ c.args.g c.self.view_is c.requires.guest in
    subst (λ guest. IsHosted guest host.memory) (sym c.index.ensures) (c.self.invariant.each c.args.g c.index.result.now inside (active_of host.guests.items host.memory host.free host.retired _ c.args.g c.self.view_is c.requires.active))

pub returns-clause-bytes : goal.returns-clause-bytes
returns-clause-bytes g c =
    let host = c.self.inside in
    let inside = among host.guests.items host.memory host.free host.retired _ c.args.g c.self.view_is c.requires.guest in
    let machine = c.of-view.ensures ∙ sym (host_machine host.guests.items host.memory host.free host.retired _ c.args.g c.index.result.now c.self.view_is inside c.index.ensures) in
    subst (λ m. Puts g.O.Sink.stands_for c.args.out.now c.put.new.out (is_ok c.put.result) (form m)) machine c.put.ensures.bytes
