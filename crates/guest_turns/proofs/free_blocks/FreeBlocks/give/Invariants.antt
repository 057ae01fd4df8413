use Rattle.std.proofs.Common.{◌≡◌, drop, length}
use Rattle.guest_turns.specs.Hosted.{with_free}
use Rattle.guest_turns.proofs.free_blocks.FreeBlocks.give.Given as goal

abbrev pub invariant-loop-i : goal.invariant-loop-i
invariant-loop-i l = record { left : with_free (drop l.i l.blocks) l.self-inside.free ≡ with_free l.blocks l.fn.self; size : length l.self-inside.free ≡ 256 }
