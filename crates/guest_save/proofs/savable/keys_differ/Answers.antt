use Rattle.std.proofs.Common.{◌≡◌, get_or, ap, ◌∙◌}
use Rattle.arch_defs.specs.Spaces.{Space}
use Rattle.guest_save.specs.Savable.{HasOtherKey}
use Rattle.guest_save.proofs.Testing.{pairs_done, pairs_failed, pairs_passed}
use Rattle.guest_save.proofs.savable.keys_differ.Goals as goal

pub returns-then-not-has_other_key : goal.returns-then-not-has_other_key
returns-then-not-has_other_key c =
    let key : c.space.inside.key ≡ (get_or c.args.spaces.now c.loop-i.i c.index-spaces-i.result).key = ap (λ (s : Space). s.key) (c.space.view_is ∙ c.index-spaces-i.is) in
    pairs_failed HasOtherKey c.args.spaces.now c.loop-i.i c.index-spaces-i.result c.has_other_key.result c.loop-i-test.true (rw key at c.has_other_key.ensures) c.if-not-has_other_key.true

pub loop-i-preserved : goal.loop-i-preserved
loop-i-preserved c =
    let key : c.space.inside.key ≡ (get_or c.args.spaces.now c.loop-i.i c.index-spaces-i.result).key = ap (λ (s : Space). s.key) (c.space.view_is ∙ c.index-spaces-i.is) in
    pairs_passed HasOtherKey c.args.spaces.now c.loop-i.i c.index-spaces-i.result c.has_other_key.result c.loop-i-test.true (rw key at c.has_other_key.ensures) c.if-not-has_other_key.false
    c.loop-i.invariant

pub returns : goal.returns
returns c = pairs_done HasOtherKey c.args.spaces.now c.loop-i.i c.loop-i-test.false c.loop-i.invariant
