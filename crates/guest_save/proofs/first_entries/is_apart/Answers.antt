use Rattle.std.specs.List.{All}
use Rattle.std.specs.Prelude.{IsTrue}
use Rattle.std.proofs.Common.{false, ◌∙◌, sym}
use Rattle.std.proofs.lemmas.Bool.{false≢true, true≢false}
use Rattle.std.proofs.lemmas.List.Elements.{All-more}
use Rattle.arch_defs.specs.declared.first.FirstEntry.{FirstEntry}
use Rattle.run_laws.specs.FirstKeys.{AreApart}
use Rattle.guest_save.proofs.Testing.{test_done}
use Rattle.guest_save.proofs.first_entries.is_apart.Goals as goal

pub loop-other-preserved : goal.loop-other-preserved
loop-other-preserved c =
    All-more (λ (other : FirstEntry). AreApart other c.args.entry.now) c.args.others.now c.loop-other.other-index _ c.loop-other-test.true c.loop-other.invariant (sym c.is_of.ensures ∙ c.if-is_of.false)

pub returns-then-is_of : goal.returns-then-is_of
returns-then-is_of c = (
  λ (h : IsTrue false). absurd (false≢true h),
  λ (all : All (λ (other : FirstEntry). AreApart other c.args.entry.now) c.args.others.now).
      absurd (true≢false (sym c.if-is_of.true ∙ c.is_of.ensures ∙ all c.loop-other.other-index _ c.loop-other-test.true)),
)

pub returns : goal.returns
returns c = test_done (λ (other : FirstEntry). AreApart other c.args.entry.now) c.args.others.now c.loop-other.other-index c.loop-other-test.false c.loop-other.invariant
