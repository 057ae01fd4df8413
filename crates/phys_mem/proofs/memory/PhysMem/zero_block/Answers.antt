use Rattle.std.proofs.Common.{arith}
use Rattle.phys_mem.proofs.FrameBytes.{size_is}
use Rattle.phys_mem.proofs.memory.PhysMem.zero_block.Goals as goal

pub overflow_mul-n : goal.overflow_mul-n
overflow_mul-n c = omega (arith, c.requires, c.self.inside.frames.ok.0, c.self.invariant.1, size_is 4096 c.self.inside.frames.items c.args.self.now (omega arith) c.self.invariant.0 c.self.view_is)
