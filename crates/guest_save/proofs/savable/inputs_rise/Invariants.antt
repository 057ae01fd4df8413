use Rattle.guest_save.proofs.Testing.{Rise}
use Rattle.guest_save.proofs.savable.inputs_rise.Given as goal

abbrev pub invariant-loop-moment : goal.invariant-loop-moment
invariant-loop-moment l = Rise l.inputs l.moment-index l.before
