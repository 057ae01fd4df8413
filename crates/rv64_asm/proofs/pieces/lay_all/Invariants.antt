use Rattle.std.proofs.Common.{◌≡◌, ℕ, ◌≤◌, drop, length, slice_index, unwrap_or}
use Rattle.rv64_asm.specs.Plans.{covering, last_end}
use Rattle.rv64_asm.proofs.pieces.lay_all.Given as goal

abbrev pub invariant-loop-piece : goal.invariant-loop-piece
invariant-loop-piece l = record {
  ends : last_end (drop l.piece-index l.pieces) ≤ length l.bytes;
  size : length l.bytes ≡ length l.fn.bytes;
  bytes : (place : ℕ) → unwrap_or (covering (drop l.piece-index l.pieces) place) (slice_index l.bytes place)
      ≡ unwrap_or (covering l.pieces place) (slice_index l.fn.bytes place);
}
