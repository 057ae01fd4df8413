use Rattle.guest_turns.proofs.Flags.{AreSetFrom}
use Rattle.guest_turns.proofs.free_blocks.FreeBlocks.from.Given as goal

abbrev pub invariant-loop-i : goal.invariant-loop-i
invariant-loop-i l = AreSetFrom l.first l.i l.free
