use Rattle.guest_loader.specs.Progress.{IsClearedUpTo}
use Rattle.guest_loader.proofs.loading.clear.Given as goal

abbrev pub invariant-loop-i : goal.invariant-loop-i
invariant-loop-i l = IsClearedUpTo l.part.blocks l.i l.fn.mem l.mem
