-- A guest's RAM in its blocks of machine memory.
use Rattle.std.proofs.Common.{◌≡◌, ℕ, true, ◌+◌, ◌*◌, ◌/◌, ◌%◌, ◌<◌, ◌≤◌, List, length, slice_index, sym, arith}
use Rattle.std.proofs.lemmas.Nat.{mod_below}
use Rattle.arch_defs.specs.Memory.{block_size, load, pasted}
use Rattle.arch_defs.specs.Frames.{in_blocks, LieIn, Same}
use Rattle.arch_defs.specs.Ram.{ram_of, host_place, SlicesLieIn, IsDistinct}
use Rattle.arch_defs.proofs.FrameSets.{in_block_at}
use Rattle.arch_defs.proofs.SlicesOf.{slot, length_slices, place_inside, places_apart, along, slices_alike, load_slices, pasted_slices}
use Rattle.arch_defs.proofs.Rooms.{last_frame_of}

some_bytes : 0 < block_size
some_bytes = omega arith

-- the frame and the offset in it of a place in a block
frame_of_block : (b r : ℕ) → r < 2097152 → (b * 2097152 + r) / 4096 / 512 ≡ b
frame_of_block b r h = omega arith

last_frame : (b most : ℕ) → (b * 512 + 511) * 4096 + 4096 ≤ most → b * 2097152 + 2097152 ≤ most
last_frame b most h = omega arith

-- blocks whose frames lie in memory do
pub blocks_lie_in : (blocks : List ℕ) (size : ℕ) → LieIn (in_blocks blocks) size → SlicesLieIn block_size blocks size
blocks_lie_in blocks size lie i h =
    last_frame (slice_index blocks i) size
    (lie (slice_index blocks i * 512 + 511) (in_block_at blocks i (slice_index blocks i * 512 + 511) h (last_frame_of (slice_index blocks i))))

pub ram_length : (blocks memory : List ℕ) → SlicesLieIn block_size blocks (length memory) → length (ram_of blocks memory) ≡ length blocks * block_size
ram_length blocks memory lie = length_slices block_size blocks memory lie

-- a place of RAM is in a frame of its blocks
pub place_named : (blocks : List ℕ) (offset : ℕ) → offset < length blocks * block_size → in_blocks blocks (host_place blocks offset / 4096) ≡ true
place_named blocks offset h =
    in_block_at blocks (offset / block_size) (host_place blocks offset / 4096) (slot block_size (length blocks) offset some_bytes h)
    (sym (frame_of_block (slice_index blocks (offset / block_size)) (offset % block_size) (mod_below offset block_size some_bytes)))

pub place_held : (blocks : List ℕ) (size offset : ℕ) → SlicesLieIn block_size blocks size → offset < length blocks * block_size → host_place blocks offset < size
place_held blocks size offset lie h = place_inside block_size blocks size offset some_bytes lie h

pub host_places_apart : (blocks : List ℕ) (a b : ℕ) → IsDistinct blocks → a < length blocks * block_size → b < length blocks * block_size
    → host_place blocks a ≡ host_place blocks b → a ≡ b
host_places_apart blocks a b distinct a_in b_in same = places_apart block_size blocks a b some_bytes distinct a_in b_in same

pub host_place_along : (blocks : List ℕ) (offset k : ℕ) → offset % block_size + k < block_size → host_place blocks (offset + k) ≡ host_place blocks offset + k
host_place_along blocks offset k h = along block_size blocks offset k h

-- RAM depends on the frames of its blocks alone
pub ram_kept : (blocks old new : List ℕ) → SlicesLieIn block_size blocks (length old) → Same (in_blocks blocks) old new → ram_of blocks new ≡ ram_of blocks old
ram_kept blocks old new lie same =
    slices_alike block_size blocks old new some_bytes same.size lie (λ offset h. same.bytes (host_place blocks offset) (place_named blocks offset h))

pub ram_load : (blocks memory : List ℕ) (offset n : ℕ) → SlicesLieIn block_size blocks (length memory)
    → offset + n ≤ length blocks * block_size → offset % block_size + n ≤ block_size → load (ram_of blocks memory) offset n ≡ load memory (host_place blocks offset) n
ram_load blocks memory offset n lie inside one = load_slices block_size blocks memory offset n some_bytes lie inside one

pub ram_pasted : (blocks memory : List ℕ) (offset : ℕ) (piece : List ℕ) → SlicesLieIn block_size blocks (length memory) → IsDistinct blocks
    → offset < length blocks * block_size → offset + length piece ≤ length blocks * block_size → offset % block_size + length piece ≤ block_size
    → ram_of blocks (pasted memory (host_place blocks offset) piece) ≡ pasted (ram_of blocks memory) offset piece
ram_pasted blocks memory offset piece lie distinct from inside one = pasted_slices block_size blocks memory offset piece some_bytes lie distinct from inside one
