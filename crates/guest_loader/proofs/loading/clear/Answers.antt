use Rattle.std.proofs.Common.{◌≡◌, ◌<◌, ap, length, subst, arith}
use Rattle.guest_loader.specs.Progress.{IsClearedUpTo}
use Rattle.guest_loader.proofs.Blocks.{cleared_none, cleared_more, cleared_all}
use Rattle.guest_loader.proofs.loading.clear.Goals as goal

pub loop-i-init : goal.loop-i-init
loop-i-init c = cleared_none c.args.part.now.blocks c.args.mem.now

pub clear_block-requires-clause-inside : goal.clear_block-requires-clause-inside
clear_block-requires-clause-inside c = rw c.loop-i.invariant.only.size c.requires

pub loop-i-preserved : goal.loop-i-preserved
loop-i-preserved c =
    let inside : c.loop-i.i < length c.args.part.now.blocks = omega (arith, c.loop-i-test.true, ap length c.blocks-i-end.ensures.value) in
    cleared_more c.args.part.now.blocks c.args.mem.now c.loop-i.mem c.clear_block.new.mem c.loop-i.i
    c.requires inside c.loop-i.invariant c.clear_block.ensures.ram c.clear_block.ensures.only

pub returns-clause-ram : goal.returns-clause-ram
returns-clause-ram c =
    let last : c.loop-i.i ≡ length c.args.part.now.blocks = omega (arith, c.loop-i-test.false, c.loop-i.auto.i-end, ap length c.blocks-i-end.ensures.value) in
    cleared_all c.args.part.now.blocks c.args.mem.now c.loop-i.mem c.requires
    (subst (λ i. IsClearedUpTo c.args.part.now.blocks i c.args.mem.now c.loop-i.mem) last c.loop-i.invariant)
