use Rattle.guest_save.specs.Tests.{IsSoundSpace}
use Rattle.guest_save.proofs.Testing.{test_done, test_passed}
use Rattle.guest_save.proofs.savable.spaces_fit.Goals as goal

pub loop-space-preserved : goal.loop-space-preserved
loop-space-preserved c =
    test_passed (IsSoundSpace c.args.ram c.args.room c.args.device) c.args.spaces.now c.loop-space.space-index c.space-item.result c.space_fits.result c.loop-space-test.true (rw c.space-item.is at c.space_fits.ensures) c.if-not-space_fits.false c.loop-space.invariant

pub returns : goal.returns
returns c = test_done (IsSoundSpace c.args.ram c.args.room c.args.device) c.args.spaces.now c.loop-space.space-index c.loop-space-test.false c.loop-space.invariant
