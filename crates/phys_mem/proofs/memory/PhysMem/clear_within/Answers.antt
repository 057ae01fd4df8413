use Rattle.std.proofs.Common.{arith}
use Rattle.arch_defs.specs.Memory.{zeros}
use Rattle.phys_mem.proofs.FrameBytes.{frame_there, written_there}
use Rattle.phys_mem.proofs.memory.PhysMem.clear_within.Goals as goal
use Rattle.arch_defs.proofs.Images.{length_zeros}

pub index_mut-requires : goal.index_mut-requires
index_mut-requires c = omega (arith, c.self.inside.frames.ok.0, frame_there 4096 c.self.inside.frames.items c.args.self.now (omega arith) c.self.invariant.0 c.self.view_is c.args.at c.requires.inside)

pub returns : goal.returns
returns c =
    written_there 4096 c.self.inside.frames.items c.args.self.now (omega arith) c.self.invariant.0 c.self.view_is
    c.args.at c.index_mut.result.now c.clear.new.bytes (zeros c.args.count) c.requires.inside (rw (length_zeros c.args.count) c.requires.one_frame) c.index_mut.ensures.value c.clear.ensures
