use Rattle.std.proofs.Common.{◌≡◌, ℕ, ◌<◌, length, get_or}
use Rattle.translation_buffer.specs.declared.slots.Slot.{Slot}
use Rattle.translation_buffer.specs.Serving.{LacksBit}
use Rattle.translation_buffer.specs.Tags.{AreLeft}
use Rattle.translation_buffer.proofs.slots.drop_each.Given as goal

abbrev pub invariant-loop-at : goal.invariant-loop-at
invariant-loop-at l = record {
  size : length l.slots ≡ length l.fn.slots;
  left : AreLeft l.fn.slots l.slots;
  lack : (k : ℕ) (other : Slot) → k < l.at → LacksBit l.frame (get_or l.slots k other);
}
