use Rattle.guest_turns.proofs.Leaving.{IsZeroing}
use Rattle.guest_turns.proofs.retirement.zero_blocks.Given as goal

abbrev pub invariant-loop-i : goal.invariant-loop-i
invariant-loop-i l = record { done : IsZeroing l.blocks l.fn.memory l.i l.memory }
