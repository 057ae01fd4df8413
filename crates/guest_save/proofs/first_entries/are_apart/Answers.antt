use Rattle.run_laws.specs.FirstKeys.{AreApart}
use Rattle.guest_save.proofs.Testing.{pairs_done, pairs_failed, pairs_passed}
use Rattle.guest_save.proofs.first_entries.are_apart.Goals as goal

pub returns-then-not-is_apart : goal.returns-then-not-is_apart
returns-then-not-is_apart c =
    pairs_failed AreApart c.args.entries.now c.loop-i.i _ c.is_apart.result c.loop-i-test.true c.is_apart.ensures c.if-not-is_apart.true

pub loop-i-preserved : goal.loop-i-preserved
loop-i-preserved c =
    pairs_passed AreApart c.args.entries.now c.loop-i.i _ c.is_apart.result c.loop-i-test.true c.is_apart.ensures c.if-not-is_apart.false c.loop-i.invariant

pub returns : goal.returns
returns c = pairs_done AreApart c.args.entries.now c.loop-i.i c.loop-i-test.false c.loop-i.invariant
