use Rattle.std.proofs.Common.{◌≡◌, false, ap, ◌∙◌, sym}
use Rattle.std.proofs.lemmas.List.Elements.{All-more}
use Rattle.arch_defs.specs.Roots.{is_root}
use Rattle.arch_defs.specs.Spaces.{Space}
use Rattle.guest_save.proofs.Testing.{test_done}
use Rattle.guest_save.proofs.savable.has_other_key.Goals as goal

pub loop-other-preserved : goal.loop-other-preserved
loop-other-preserved c =
    let key = ap (λ (s : Space). s.key) (c.other.view_is ∙ c.other-item.is) in
    let apart = ap (is_root c.args.key) (sym key) ∙ sym c.is_root.ensures ∙ c.if-is_root.false in
    All-more (λ (other : Space). is_root c.args.key other.key ≡ false) c.args.others.now c.loop-other.other-index c.other-item.result c.loop-other-test.true c.loop-other.invariant apart

pub returns : goal.returns
returns c = test_done (λ (other : Space). is_root c.args.key other.key ≡ false) c.args.others.now c.loop-other.other-index c.loop-other-test.false c.loop-other.invariant
