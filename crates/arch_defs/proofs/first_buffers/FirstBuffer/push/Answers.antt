use Rattle.std.proofs.Common.{ap, arith, length}
use Rattle.std.proofs.lemmas.List.{length-take-le}
use Rattle.arch_defs.proofs.FirstSlots.{pushed}
use Rattle.arch_defs.proofs.first_buffers.FirstBuffer.push.Goals as goal

pub invariant_of-self : goal.invariant_of-self
invariant_of-self c =
    pushed c.self.inside.count c.self.inside.slots c.args.entry (omega (arith, c.self.ranges)) (omega (arith, c.requires.room, ap length c.self.view_is, length-take-le c.self.inside.count c.self.inside.slots c.self.invariant.1))
    c.self.invariant.2 c.self.invariant.3 c.requires.fits
