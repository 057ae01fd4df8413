use Rattle.std.proofs.Common.{◌≡◌, length, arith}
use Rattle.std.proofs.lemmas.List.Elements.{All-set}
use Rattle.phys_mem.proofs.FrameBytes.{frame_inside, frame_long, frame_copied}
use Rattle.phys_mem.proofs.memory.PhysMem.copy_frame.Goals as goal

pub index-requires : goal.index-requires
index-requires c = omega (arith, c.self.inside.frames.ok.0, frame_inside 4096 c.self.inside.frames.items c.args.self.now (omega arith) c.self.invariant.0 c.self.view_is c.args.from c.requires.from)

pub index_mut-requires : goal.index_mut-requires
index_mut-requires c = omega (arith, c.self.inside.frames.ok.0, frame_inside 4096 c.self.inside.frames.items c.args.self.now (omega arith) c.self.invariant.0 c.self.view_is c.args.to c.requires.to)

pub invariant_of-self : goal.invariant_of-self
invariant_of-self c =
    let long = frame_long 4096 c.self.inside.frames.items c.args.self.now (omega arith) c.self.invariant.0 c.self.view_is c.args.from c.index.result.now c.requires.from c.index.ensures in
    (All-set (λ frame. length frame ≡ 4096) c.self.inside.frames.items c.args.to c.index.result.now long c.self.invariant.0, c.self.invariant.1)

pub returns : goal.returns
returns c = frame_copied 4096 c.self.inside.frames.items c.args.self.now (omega arith) c.self.invariant.0 c.self.view_is c.args.from c.args.to c.index.result.now c.requires.from c.requires.to c.index.ensures
