use Rattle.guest_loader.specs.Progress.{IsLoadedUpTo}
use Rattle.guest_loader.proofs.loading.load_over_zeros.Given as goal

abbrev pub invariant-loop-i : goal.invariant-loop-i
invariant-loop-i l = IsLoadedUpTo l.part.blocks l.image l.i l.fn.mem l.mem
