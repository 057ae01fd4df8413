use Rattle.std.proofs.Common.{◌≡◌, ◌<◌, ap, length, subst, arith}
use Rattle.guest_loader.specs.Progress.{IsLoadedUpTo}
use Rattle.guest_loader.proofs.Blocks.{loaded_none, loaded_more, loaded_all}
use Rattle.guest_loader.proofs.loading.load_over_zeros.Goals as goal

pub loop-i-init : goal.loop-i-init
loop-i-init c = loaded_none c.args.part.now.blocks c.args.image.now c.args.mem.now c.requires.zeros

pub load_block-requires-clause-inside : goal.load_block-requires-clause-inside
load_block-requires-clause-inside c = rw c.loop-i.invariant.only.size c.requires.inside

pub loop-i-preserved : goal.loop-i-preserved
loop-i-preserved c =
    let inside : c.loop-i.i < length c.args.part.now.blocks = omega (arith, c.loop-i-test.true, ap length c.blocks-i-end.ensures.value) in
    loaded_more c.args.part.now.blocks c.args.image.now c.args.mem.now c.loop-i.mem c.load_block.new.mem c.loop-i.i
    inside c.requires.fits c.loop-i.invariant c.load_block.ensures.ram c.load_block.ensures.only

pub returns-clause-ram : goal.returns-clause-ram
returns-clause-ram c =
    let last : c.loop-i.i ≡ length c.args.part.now.blocks = omega (arith, c.loop-i-test.false, c.loop-i.auto.i-end, ap length c.blocks-i-end.ensures.value) in
    loaded_all c.args.part.now.blocks c.args.image.now c.args.mem.now c.loop-i.mem c.requires.fits
    (subst (λ i. IsLoadedUpTo c.args.part.now.blocks c.args.image.now i c.args.mem.now c.loop-i.mem) last c.loop-i.invariant)
