use Rattle.std.proofs.Common.{ap, arith, length}
use Rattle.std.proofs.lemmas.List.{length-take-le}
use Rattle.arch_defs.proofs.FirstSlots.{oldest_page, without_oldest}
use Rattle.arch_defs.proofs.first_buffers.FirstBuffer.drop_oldest.Goals as goal

pub invariant_of-self : goal.invariant_of-self
invariant_of-self c =
    without_oldest c.self.inside.count c.self.inside.slots c.copy_within.new.self (omega (arith, c.requires, ap length c.self.view_is, length-take-le c.self.inside.count c.self.inside.slots c.self.invariant.1)) c.self.invariant.0 (omega (arith, c.self.ranges)) c.self.invariant.2 c.self.invariant.3
    c.copy_within.ensures.after c.copy_within.ensures.len

pub returns-clause-page : goal.returns-clause-page
returns-clause-page c = oldest_page c.self.inside.count c.self.inside.slots c.args.self.now c.self.view_is
    (omega (arith, c.requires, ap length c.self.view_is, length-take-le c.self.inside.count c.self.inside.slots c.self.invariant.1))
