use Rattle.guest_save.specs.Savable.{IsSavableEntry}
use Rattle.guest_save.proofs.Testing.{test_done, test_passed}
use Rattle.guest_save.proofs.savable.entries_fit.Goals as goal

pub loop-entry-preserved : goal.loop-entry-preserved
loop-entry-preserved c =
    test_passed (IsSavableEntry c.args.key c.args.ram c.args.device) c.args.entries.now c.loop-entry.entry-index _ c.entry_fits.result c.loop-entry-test.true c.entry_fits.ensures c.if-not-entry_fits.false c.loop-entry.invariant

pub returns : goal.returns
returns c = test_done (IsSavableEntry c.args.key c.args.ram c.args.device) c.args.entries.now c.loop-entry.entry-index c.loop-entry-test.false c.loop-entry.invariant
