use Rattle.std.proofs.Common.{arith}
use Rattle.translation_buffer.proofs.buffers.Buffer.new.Goals as goal

pub invariant_of-result : goal.invariant_of-result
invariant_of-result c = record { few = omega arith; tags = c.none.ensures.tags 0; homes = c.none.ensures.homes }
