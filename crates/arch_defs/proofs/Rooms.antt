-- When the frames of a part lie in memory of that many bytes.
use Rattle.std.proofs.Common.{◌≡◌, ℕ, ◌+◌, ◌-◌, ◌*◌, ◌/◌, ◌<◌, ◌≤◌, ◌⊎◌, inl, inr, Bool, true, ◌↔◌, IsTrue, List, length, slice_index, arith}
use Rattle.std.proofs.lemmas.Bool.{or_cases}
use Rattle.arch_defs.specs.Frames.{Frames, within, in_blocks, joined, LieIn, Within}
use Rattle.arch_defs.proofs.FrameSets.{in_range, range_parts, in_block_at, block_found, left_within, right_within}

pub range_lies : (first count size : ℕ) → (first + count) * 4096 ≤ size → LieIn (within first count) size
range_lies first count size room frame named = let parts = range_parts first count frame named in omega (arith, parts.1, room)

pub range_room : (first count size : ℕ) → 0 < count → LieIn (within first count) size → (first + count) * 4096 ≤ size
range_room first count size some lie =
    let last = lie (first + count - 1) (in_range first count (first + count - 1) (omega arith) (omega arith)) in omega (arith, last, some)

-- a frame of a block ends where the block does or before
frame_ends : (b frame size : ℕ) → b ≡ frame / 512 → (b + 1) * 2097152 ≤ size → frame * 4096 + 4096 ≤ size
frame_ends b frame size e room = omega arith

block_ends : (b size : ℕ) → (b * 512 + 511) * 4096 + 4096 ≤ size → (b + 1) * 2097152 ≤ size
block_ends b size room = omega arith

pub last_frame_of : (b : ℕ) → b ≡ (b * 512 + 511) / 512
last_frame_of b = omega arith

pub blocks_lie : (blocks : List ℕ) (size : ℕ) → ((i : ℕ) → i < length blocks → (slice_index blocks i + 1) * 2097152 ≤ size) → LieIn (in_blocks blocks) size
blocks_lie blocks size room frame named =
    let found = block_found blocks frame named in frame_ends (slice_index blocks found.0) frame size found.2 (room found.0 found.1)

pub blocks_room : (blocks : List ℕ) (size : ℕ) → LieIn (in_blocks blocks) size → (i : ℕ) → i < length blocks → (slice_index blocks i + 1) * 2097152 ≤ size
blocks_room blocks size lie i h =
    block_ends (slice_index blocks i) size (lie (slice_index blocks i * 512 + 511) (in_block_at blocks i (slice_index blocks i * 512 + 511) h (last_frame_of (slice_index blocks i))))

-- the frames of both sets do where those of each do
pub joined_lie : (a b : Frames) (size : ℕ) → LieIn a size → LieIn b size → LieIn (joined a b) size
joined_lie a b size first second frame named = by (or_cases (a frame) (b frame) named)
  where
    by : (a frame ≡ true) ⊎ (b frame ≡ true) → frame * 4096 + 4096 ≤ size
    by (inl h) = first frame h
    by (inr h) = second frame h

pub fewer_lie : (less more : Frames) (size : ℕ) → Within less more → LieIn more size → LieIn less size
fewer_lie less more size fewer lie frame named = lie frame (fewer frame named)

pub first_lies : (a b : Frames) (size : ℕ) → LieIn (joined a b) size → LieIn a size
first_lies a b size lie = fewer_lie a (joined a b) size (left_within a b) lie

pub second_lies : (a b : Frames) (size : ℕ) → LieIn (joined a b) size → LieIn b size
second_lies a b size lie = fewer_lie b (joined a b) size (right_within a b) lie

-- the tests of this
pub range_test : (first count size : ℕ) (t : Bool) → 0 < count → (IsTrue t ↔ ((first + count) * 4096 ≤ size)) → IsTrue t ↔ LieIn (within first count) size
range_test first count size t some test =
    ((λ yes. range_lies first count size (test.0 yes)), (λ lie. test.1 (range_room first count size some lie)))

pub blocks_test : (blocks : List ℕ) (size : ℕ) (t : Bool) → (IsTrue t ↔ ((i : ℕ) → i < length blocks → (slice_index blocks i + 1) * 2097152 ≤ size))
    → IsTrue t ↔ LieIn (in_blocks blocks) size
blocks_test blocks size t test = ((λ yes. blocks_lie blocks size (test.0 yes)), (λ lie. test.1 (blocks_room blocks size lie)))
