use Rattle.std.specs.List.{each_same}
use Rattle.arch_defs.specs.Memory.{zeros}
use Rattle.phys_mem.proofs.FrameBytes.{frames_zero}
use Rattle.phys_mem.proofs.memory.PhysMem.new.Goals as goal

pub returns : goal.returns
unfolding zeros
returns c = rw (c.in_ok-vec.ensures.items_if_clones_equal (λ y h. each_same _ y h.whole)) (frames_zero 4096 c.args.frames)
