-- The frames that a set holds (own).
use Rattle.std.specs.Prelude.{ℕ, ◌+◌, ◌-◌, ◌%◌, ◌^◌, Bool, ◌&&◌, ◌||◌, ◌==◌, nat_lt, slice_index, if◌then◌else◌}
use Rattle.arch_defs.specs.Frames.{Frames}
use Rattle.arch_defs.specs.Bits.{bit}
use Rattle.translation_buffer.specs.declared.frame_sets.FrameSet.{FrameSet}

-- the key of a frame: its number and one, and never more than the last number of 64 bits
abbrev pub key_of : ℕ → ℕ
key_of frame = if nat_lt frame (2 ^ 64 - 1) then frame + 1 else 2 ^ 64 - 1

-- what stands at a frame's mark is its key, or says that several frames were added there
abbrev pub is_key : ℕ → ℕ → Bool
is_key key frame = key == key_of frame || key == 2 ^ 64 - 1

-- the mark of a frame is its number modulo 4,096
unfoldable pub has_frame : FrameSet → Frames
has_frame set frame = is_key (slice_index set.held (frame % 4096)) frame

-- the frames of the set whose bit is set in a word: the bit of their number modulo 64
unfoldable pub has_among : FrameSet → ℕ → Frames
has_among set bits frame = has_frame set frame && bit (frame % 64) bits

-- those whose bit the set has for the frames that were added since `begin`
abbrev pub has_recent : FrameSet → Frames
has_recent set = has_among set set.recent
