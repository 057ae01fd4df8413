use Rattle.std.proofs.Common.{arith}
use Rattle.translation_buffer.proofs.buffers.Buffer.clear.Goals as goal

pub invariant_of-self : goal.invariant_of-self
invariant_of-self c = record { few = omega arith; tags = c.none-self.ensures.tags 0; homes = c.none-self.ensures.homes }
