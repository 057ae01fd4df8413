use Rattle.std.proofs.Common.{◌≡◌, ℕ, ◌+◌, ◌<◌, length, get_or}
use Rattle.frame_split.proofs.planning.numbers.Given as goal

abbrev pub invariant-loop-i : goal.invariant-loop-i
invariant-loop-i l = record {
  numbers : (k : ℕ) → k < l.i → get_or l.slots k 0 ≡ l.first + k;
  slots : length l.slots ≡ 32;
}
