use Rattle.std.proofs.Common.{arith}
use Rattle.phys_mem.proofs.FrameBytes.{frame_inside, frame_cleared}
use Rattle.phys_mem.proofs.memory.PhysMem.zero_frame.Goals as goal

pub index_mut-requires : goal.index_mut-requires
index_mut-requires c = omega (arith, c.self.inside.frames.ok.0, frame_inside 4096 c.self.inside.frames.items c.args.self.now (omega arith) c.self.invariant.0 c.self.view_is c.args.n c.requires)

pub returns : goal.returns
returns c = frame_cleared 4096 c.self.inside.frames.items c.args.self.now (omega arith) c.self.invariant.0 c.self.view_is c.args.n c.index_mut.result.now c.clear.new.bytes c.requires c.index_mut.ensures.value c.clear.ensures
