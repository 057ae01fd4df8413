use Rattle.arch_defs.specs.CachedEntries.{HasOtherPage}
use Rattle.guest_save.proofs.Testing.{pairs_done, pairs_failed, pairs_passed}
use Rattle.guest_save.proofs.savable.pages_differ.Goals as goal

pub returns-then-not-has_other_page : goal.returns-then-not-has_other_page
returns-then-not-has_other_page c =
    pairs_failed HasOtherPage c.args.entries.now c.loop-i.i _ c.has_other_page.result c.loop-i-test.true c.has_other_page.ensures c.if-not-has_other_page.true

pub loop-i-preserved : goal.loop-i-preserved
loop-i-preserved c =
    pairs_passed HasOtherPage c.args.entries.now c.loop-i.i _ c.has_other_page.result c.loop-i-test.true c.has_other_page.ensures c.if-not-has_other_page.false c.loop-i.invariant

pub returns : goal.returns
returns c = pairs_done HasOtherPage c.args.entries.now c.loop-i.i c.loop-i-test.false c.loop-i.invariant
