-- Sets of frames of machine memory. A frame is 4,096 bytes from a multiple of 4,096 on; its number is that
-- place divided by 4,096.
use Rattle.std.specs.Prelude.{ℕ, ◌≡◌, ◌+◌, ◌*◌, ◌/◌, ◌≤◌, Bool, true, false, ◌&&◌, ◌||◌, ◌==◌, List, length, nat_le, nat_lt, slice_index}
use Rattle.std.specs.List.{list_any}

-- the most frames of machine memory (own: 512 MiB)
abbrev pub most_frames : ℕ
most_frames = 131072

abbrev pub Frames : Type 0
Frames = ℕ → Bool

-- that many frames from a first one on
abbrev pub within : ℕ → ℕ → Frames
within first count frame = nat_le first frame && nat_lt frame (first + count)

-- the frames of these blocks; a block is 512 frames from a multiple of 512 on
abbrev pub in_blocks : List ℕ → Frames
in_blocks blocks frame = list_any (λ block. block == frame / 512) blocks

-- the frames of both sets
abbrev pub joined : Frames → Frames → Frames
joined a b frame = a frame || b frame

-- no frame is in both
abbrev pub Apart : Frames → Frames → Type 0
Apart a b = (frame : ℕ) → a frame ≡ true → b frame ≡ false

-- all of them are in the other set
abbrev pub Within : Frames → Frames → Type 0
Within a b = (frame : ℕ) → a frame ≡ true → b frame ≡ true

-- all of them lie in memory of that many bytes
abbrev pub LieIn : Frames → ℕ → Type 0
LieIn a size = (frame : ℕ) → a frame ≡ true → frame * 4096 + 4096 ≤ size

-- of the bytes of memory only those of these frames changed
pub record Only (changed : Frames) (old new : List ℕ) : Type 0 where
  pub size : length new ≡ length old
  pub others : (at : ℕ) → changed (at / 4096) ≡ false → slice_index new at ≡ slice_index old at

-- the bytes of these frames are the same
pub record Same (kept : Frames) (old new : List ℕ) : Type 0 where
  pub size : length new ≡ length old
  pub bytes : (at : ℕ) → kept (at / 4096) ≡ true → slice_index new at ≡ slice_index old at
