use Rattle.run_laws.specs.FirstKeys.{IsOfFirstTable}
use Rattle.guest_save.proofs.Testing.{test_done, test_passed}
use Rattle.guest_save.proofs.first_entries.all_first_fit.Goals as goal

pub loop-entry-preserved : goal.loop-entry-preserved
loop-entry-preserved c =
    test_passed IsOfFirstTable c.args.entries.now c.loop-entry.entry-index _ c.first_fits.result c.loop-entry-test.true c.first_fits.ensures c.if-not-first_fits.false c.loop-entry.invariant

pub returns : goal.returns
returns c = test_done IsOfFirstTable c.args.entries.now c.loop-entry.entry-index c.loop-entry-test.false c.loop-entry.invariant
