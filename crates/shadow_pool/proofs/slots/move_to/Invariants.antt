use Rattle.shadow_pool.proofs.Moving.{IsMoving}
use Rattle.shadow_pool.proofs.slots.move_to.Given as goal

abbrev pub invariant-loop-i : goal.invariant-loop-i
invariant-loop-i l = record { done : IsMoving l.part l.fn.slots l.fn.mem l.i l.slots l.mem }
