use Rattle.std.specs.Prelude.{◌≡◌, ℕ, ◌+◌, ◌-◌, ◌<◌, length, slice_index}
use Rattle.shadow_space.specs.Trees.{most_tables}
use Rattle.shadow_space.proofs.frames.numbers.Given as goal

abbrev pub invariant-loop-i : goal.invariant-loop-i
invariant-loop-i l = (length l.numbers ≡ most_tables) × ((k : ℕ) → k < l.i → slice_index l.numbers k ≡ l.count - (k + 1))
