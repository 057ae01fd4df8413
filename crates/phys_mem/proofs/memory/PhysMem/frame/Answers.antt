use Rattle.std.proofs.Common.{arith}
use Rattle.phys_mem.proofs.FrameBytes.{frame_inside, frame_shown}
use Rattle.phys_mem.proofs.memory.PhysMem.frame.Goals as goal

pub index-requires : goal.index-requires
index-requires c = omega (arith, c.self.inside.frames.ok.0, frame_inside 4096 c.self.inside.frames.items c.args.self.now (omega arith) c.self.invariant.0 c.self.view_is c.args.n c.requires)

pub returns : goal.returns
returns c = frame_shown 4096 c.self.inside.frames.items c.args.self.now (omega arith) c.self.invariant.0 c.self.view_is c.args.n c.index.result.now c.requires c.index.ensures
