-- What a set holds after the frames of a mark were taken out.
use Rattle.std.proofs.Common.{◌≡◌, ℕ, ◌%◌, false, length, set, slice_index, ap, ◌∙◌, arith}
use Rattle.std.proofs.lemmas.List.{get_or-set_same}
use Rattle.translation_buffer.specs.declared.frame_sets.FrameSet.{FrameSet}
use Rattle.translation_buffer.specs.Holding.{has_frame, is_key}
use Rattle.translation_buffer.proofs.Holding.{apart_kept, is_none}

pub taken_out : (frames : FrameSet) (frame other : ℕ) → length frames.held ≡ 4096 → other % 4096 ≡ frame % 4096
    → has_frame (record frames { held = set frames.held (frame % 4096) 0 }) other ≡ false
unfolding has_frame
taken_out frames frame other size same = ap (λ n. is_key n other)
    (ap (slice_index (set frames.held (frame % 4096) 0)) same ∙ get_or-set_same frames.held (frame % 4096) 0 0 (omega (arith, size))) ∙ is_none other

pub ruleset removing = (taken_out, apart_kept)
