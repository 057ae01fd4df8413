use Rattle.std.proofs.Common.{◌≡◌, ◌+◌, ◌*◌, ◌≤◌, length, arith, refl, sym, subst, ap, ◌∙◌}
use Rattle.std.specs.List.{concat, copy_within}
use Rattle.std.proofs.lemmas.List.{with_items_is}
use Rattle.arch_defs.specs.Memory.{block_size}
use Rattle.phys_mem.specs.MemoryBytes.{AreWhole}
use Rattle.phys_mem.proofs.FrameBytes.{block_copied, block_inside, block_whole, size_is}
use Rattle.phys_mem.proofs.memory.PhysMem.copy_block.Goals as goal

pub overflow_mul-from : goal.overflow_mul-from
overflow_mul-from c = omega (arith, c.requires.from, c.self.inside.frames.ok.0, c.self.invariant.1, size_is 4096 c.self.inside.frames.items c.args.self.now (omega arith) c.self.invariant.0 c.self.view_is)

pub overflow_mul-to : goal.overflow_mul-to
overflow_mul-to c = omega (arith, c.requires.to, c.self.inside.frames.ok.0, c.self.invariant.1, size_is 4096 c.self.inside.frames.items c.args.self.now (omega arith) c.self.invariant.0 c.self.view_is)

pub copy_frames-requires-clause-from : goal.copy_frames-requires-clause-from
copy_frames-requires-clause-from c =
    subst (λ frames. c.args.from * 512 + 512 ≤ length frames) (sym c.as_mut_slice-frames.ensures.value)
    (block_inside 4096 512 block_size c.self.inside.frames.items c.args.self.now (omega arith) c.self.invariant.0 c.self.view_is refl c.args.from c.requires.from)

pub copy_frames-requires-clause-to : goal.copy_frames-requires-clause-to
copy_frames-requires-clause-to c =
    subst (λ frames. c.args.to * 512 + 512 ≤ length frames) (sym c.as_mut_slice-frames.ensures.value)
    (block_inside 4096 512 block_size c.self.inside.frames.items c.args.self.now (omega arith) c.self.invariant.0 c.self.view_is refl c.args.to c.requires.to)

pub invariant_of-self : goal.invariant_of-self
invariant_of-self c =
    let long : length c.copy_frames.new.frames ≡ c.self.inside.frames.len = c.copy_frames.ensures.size ∙ ap length c.as_mut_slice-frames.ensures.value ∙ sym c.self.inside.frames.ok.0 in
    let is = c.copy_frames.ensures.frames ∙ ap (λ frames. copy_within frames (c.args.from * 512) (c.args.from * 512 + 512) (c.args.to * 512)) c.as_mut_slice-frames.ensures.value in (
      subst (AreWhole 4096) (sym (with_items_is c.self.inside.frames c.copy_frames.new.frames long ∙ is))
          (block_whole 4096 512 block_size c.self.inside.frames.items c.args.self.now (omega arith) c.self.invariant.0 c.self.view_is refl c.args.from c.args.to c.requires.from c.requires.to),
      c.self.invariant.1,
    )

pub returns : goal.returns
returns c =
    let long : length c.copy_frames.new.frames ≡ c.self.inside.frames.len = c.copy_frames.ensures.size ∙ ap length c.as_mut_slice-frames.ensures.value ∙ sym c.self.inside.frames.ok.0 in
    let is = c.copy_frames.ensures.frames ∙ ap (λ frames. copy_within frames (c.args.from * 512) (c.args.from * 512 + 512) (c.args.to * 512)) c.as_mut_slice-frames.ensures.value in
    ap concat (with_items_is c.self.inside.frames c.copy_frames.new.frames long ∙ is)
    ∙ block_copied 4096 512 block_size c.self.inside.frames.items c.args.self.now (omega arith) c.self.invariant.0 c.self.view_is refl c.args.from c.args.to c.requires.from c.requires.to
