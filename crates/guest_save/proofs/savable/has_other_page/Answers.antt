use Rattle.std.specs.List.{All}
use Rattle.std.specs.Prelude.{IsTrue}
use Rattle.std.proofs.Common.{false}
use Rattle.std.proofs.lemmas.Bool.{false≢true}
use Rattle.std.proofs.lemmas.List.Elements.{All-more}
use Rattle.arch_defs.specs.declared.cached.Entry.{Entry}
use Rattle.arch_defs.specs.CachedEntries.{HasOtherPage}
use Rattle.guest_save.proofs.Testing.{test_done}
use Rattle.guest_save.proofs.savable.has_other_page.Goals as goal

pub loop-other-preserved : goal.loop-other-preserved
loop-other-preserved c =
    All-more (λ (other : Entry). HasOtherPage other c.args.entry.now) c.args.others.now c.loop-other.other-index _ c.loop-other-test.true c.loop-other.invariant c.if-other-entry.false

pub returns-then-other-entry : goal.returns-then-other-entry
returns-then-other-entry c = (
  λ (h : IsTrue false). absurd (false≢true h),
  λ (all : All (λ (other : Entry). HasOtherPage other c.args.entry.now) c.args.others.now). absurd (all c.loop-other.other-index _ c.loop-other-test.true c.if-other-entry.true),
)

pub returns : goal.returns
returns c = test_done (λ (other : Entry). HasOtherPage other c.args.entry.now) c.args.others.now c.loop-other.other-index c.loop-other-test.false c.loop-other.invariant
