use Rattle.std.proofs.Common.{◌*◌, length, refl, ap, sym, subst, ◌∙◌, arith}
use Rattle.arch_defs.specs.Frames.{in_blocks}
use Rattle.arch_defs.specs.Memory.{block_size, loaded}
use Rattle.guest_settings.specs.declared.needs.Need.{Need}
use Rattle.shadow_space.specs.Shadows.{AreZeros}
use Rattle.guest_turns.proofs.Starting.{laid_more, none_laid, part_for, parts_count, ram_zeros}
use Rattle.guest_turns.proofs.booting.lay_out.Goals as goal

pub image-requires : goal.image-requires
image-requires c =
    (part_for c.args.sources.now c.args.parts.now c.requires.parts.frames c.loop-i.i c.index-sources-i.result c.index-parts-i.result c.requires.each c.requires.parts.split
    c.loop-i-test.true c.index-sources-i.is c.index-parts-i.is).bootable

pub load_over_zeros-requires-clause-fits : goal.load_over_zeros-requires-clause-fits
load_over_zeros-requires-clause-fits c =
    let for = part_for c.args.sources.now c.args.parts.now c.requires.parts.frames c.loop-i.i c.index-sources-i.result c.index-parts-i.result c.requires.each c.requires.parts.split
    c.loop-i-test.true c.index-sources-i.is c.index-parts-i.is in
    rw for.meets.blocks c.image.ensures.fits

pub load_over_zeros-requires-clause-zeros : goal.load_over_zeros-requires-clause-zeros
load_over_zeros-requires-clause-zeros c =
    let source = c.index-sources-i.result in
    let part = c.index-parts-i.result in
    let for = part_for c.args.sources.now c.args.parts.now c.requires.parts.frames c.loop-i.i source part c.requires.each c.requires.parts.split
    c.loop-i-test.true c.index-sources-i.is c.index-parts-i.is in
    ram_zeros part (c.requires.parts.frames * 4096) c.loop-i.memory for.lies (c.loop-i.invariant.size ∙ c.requires.parts.whole)
    (subst (λ part. AreZeros (in_blocks part.blocks) c.loop-i.memory) (sym c.index-parts-i.is) (c.loop-i.invariant.laid.later c.loop-i.i part (omega arith)
    (rw (parts_count c.args.sources.now c.args.parts.now c.requires.parts.frames c.requires.parts.split) c.loop-i-test.true)))

pub build-requires-clause-blocks : goal.build-requires-clause-blocks
build-requires-clause-blocks c =
    ap (λ (need : Need). need.blocks) c.need.ensures
    ∙ sym (part_for c.args.sources.now c.args.parts.now c.requires.parts.frames c.loop-i.i c.index-sources-i.result c.index-parts-i.result c.requires.each c.requires.parts.split
    c.loop-i-test.true c.index-sources-i.is c.index-parts-i.is).meets.blocks

pub loop-i-init : goal.loop-i-init
loop-i-init c = record {
  laid = none_laid c.args.sources.now c.args.parts.now (length c.args.memory.now) c.args.memory.now c.requires.zeros;
  size = refl;
}

pub loop-i-preserved : goal.loop-i-preserved
loop-i-preserved c =
    let source = c.index-sources-i.result in
    let part = c.index-parts-i.result in
    let for = part_for c.args.sources.now c.args.parts.now c.requires.parts.frames c.loop-i.i source part c.requires.each c.requires.parts.split
    c.loop-i-test.true c.index-sources-i.is c.index-parts-i.is in
    record {
      laid =
          laid_more c.args.sources.now c.args.parts.now c.requires.parts.frames c.loop-i.i source part c.loop-i.memory c.load_over_zeros.new.mem c.build.new.mem
          c.requires.parts.split (c.loop-i.invariant.size ∙ c.requires.parts.whole) c.loop-i-test.true c.index-sources-i.is c.index-parts-i.is for c.loop-i.invariant.laid
          (c.load_over_zeros.ensures.ram ∙ ap (λ n. loaded (n * block_size) c.image.result.now) for.meets.blocks ∙ c.image.ensures.ram)
          c.load_over_zeros.ensures.only c.build.ensures.table c.build.ensures.only;
      size = c.build.ensures.only.size ∙ c.load_over_zeros.ensures.only.size ∙ c.loop-i.invariant.size;
    }
