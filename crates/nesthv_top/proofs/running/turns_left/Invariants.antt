use Rattle.std.proofs.Common.{◌≡◌, ℕ, ◌<◌, get_or, length, take}
use Rattle.nesthv_top.specs.Moving.{turns_due}
use Rattle.nesthv_top.proofs.running.turns_left.Given as goal

abbrev pub invariant-loop-guest : goal.invariant-loop-guest
invariant-loop-guest l = record {
  count : length l.left ≡ 16;
  turns : (g : ℕ) → g < 16 → get_or l.left g 0 ≡ turns_due l.fn.kept g (take l.guest-index l.turns);
}
