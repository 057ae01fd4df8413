-- Numbers in a guest's RAM, seen through its blocks of memory.
use Rattle.std.proofs.Common.{◌≡◌, ℕ, ◌+◌, ◌-◌, ◌*◌, ◌/◌, ◌%◌, ◌<◌, ◌≤◌, ◌⊎◌, inl, inr, true, false, nat_le, List, Some, None, length, slice_index, refl, sym, ap, ◌∙◌, arith}
use Rattle.std.proofs.lemmas.Bool.{and_from, and_left, and_right, le-leb, lt-leb, cases_lt}
use Rattle.byteorder.specs.Endian.{little_bytes}
use Rattle.byteorder.specs.Numbers.{length-bytes_low_first}
use Rattle.arch_defs.specs.Memory.{ram_base, block_size, load, pasted, ram_memory}
use Rattle.arch_defs.specs.Frames.{in_blocks, LieIn, Only}
use Rattle.arch_defs.specs.Ram.{ram_of, host_place, IsDistinct}
use Rattle.arch_defs.proofs.FrameSets.{only_pasted}
use Rattle.arch_defs.proofs.RamBlocks.{blocks_lie_in, ram_length, place_named, place_held, ram_load, ram_pasted}
use Rattle.phys_mem.specs.MemoryBytes.{IsWhole, IsWidth, is_inside, number_at, bytes_with}
use Rattle.phys_mem.proofs.Places.{fits, in_frame}

-- a number that lies at a multiple of its width lies in one block, and its place is such a multiple
in_one : (width offset : ℕ) → IsWidth width → offset % width ≡ 0 → offset % 2097152 + width ≤ 2097152
in_one width offset (inl e) aligned = omega arith
in_one width offset (inr (inl e)) aligned = let a : offset % 2 ≡ 0 = rw (← e) aligned in omega arith
in_one width offset (inr (inr (inl e))) aligned = let a : offset % 4 ≡ 0 = rw (← e) aligned in omega arith
in_one width offset (inr (inr (inr e))) aligned = let a : offset % 8 ≡ 0 = rw (← e) aligned in omega arith

multiple : (width b offset : ℕ) → IsWidth width → offset % width ≡ 0 → (b * 2097152 + offset % 2097152) % width ≡ 0
multiple width b offset (inl e) aligned = rw e (omega arith)
multiple width b offset (inr (inl e)) aligned = let a : offset % 2 ≡ 0 = rw (← e) aligned in rw e (omega arith)
multiple width b offset (inr (inr (inl e))) aligned = let a : offset % 4 ≡ 0 = rw (← e) aligned in rw e (omega arith)
multiple width b offset (inr (inr (inr e))) aligned = let a : offset % 8 ≡ 0 = rw (← e) aligned in rw e (omega arith)

whole_blocks : (count : ℕ) → (count * 2097152) % 4096 ≡ 0
whole_blocks count = omega arith

pub inside_ram : (blocks : List ℕ) (offset width : ℕ) → IsWidth width → offset % width ≡ 0 → offset < length blocks * block_size → offset + width ≤ length blocks * block_size
inside_ram blocks offset width w aligned h = fits width offset (length blocks * block_size) w (whole_blocks (length blocks)) aligned h

pub host_inside : (blocks : List ℕ) (size offset : ℕ) → LieIn (in_blocks blocks) size → offset < length blocks * block_size → host_place blocks offset < size
host_inside blocks size offset lie h = place_held blocks size offset (blocks_lie_in blocks size lie) h

pub host_aligned : (blocks : List ℕ) (offset width : ℕ) → IsWidth width → offset % width ≡ 0 → host_place blocks offset % width ≡ 0
host_aligned blocks offset width w aligned = multiple width (slice_index blocks (offset / block_size)) offset w aligned

pub number_in_ram : (blocks memory : List ℕ) (offset width : ℕ) → IsWidth width → LieIn (in_blocks blocks) (length memory) → offset % width ≡ 0
    → offset < length blocks * block_size → load memory (host_place blocks offset) width ≡ load (ram_of blocks memory) offset width
number_in_ram blocks memory offset width w lie aligned h =
    sym (ram_load blocks memory offset width (blocks_lie_in blocks (length memory) lie) (inside_ram blocks offset width w aligned h) (in_one width offset w aligned))

-- a write of a number, in RAM and in memory
pub written_in_ram : (blocks memory : List ℕ) (offset width value : ℕ) → IsWidth width → LieIn (in_blocks blocks) (length memory) → IsDistinct blocks
    → offset % width ≡ 0 → offset < length blocks * block_size
    → ram_of blocks (pasted memory (host_place blocks offset) (little_bytes width value)) ≡ pasted (ram_of blocks memory) offset (little_bytes width value)
written_in_ram blocks memory offset width value w lie distinct aligned h =
    ram_pasted blocks memory offset (little_bytes width value) (blocks_lie_in blocks (length memory) lie) distinct h
    (rw (length-bytes_low_first 0 width value) (inside_ram blocks offset width w aligned h))
    (rw (length-bytes_low_first 0 width value) (in_one width offset w aligned))

-- a place in an aligned number's bytes is in a frame of the blocks
same_frame : (width at place : ℕ) → IsWidth width → at % width ≡ 0 → at ≤ place → place < at + width → place / 4096 ≡ at / 4096
same_frame width at place (inl e) aligned from to = omega arith
same_frame width at place (inr (inl e)) aligned from to = let a : at % 2 ≡ 0 = rw (← e) aligned in omega arith
same_frame width at place (inr (inr (inl e))) aligned from to = let a : at % 4 ≡ 0 = rw (← e) aligned in omega arith
same_frame width at place (inr (inr (inr e))) aligned from to = let a : at % 8 ≡ 0 = rw (← e) aligned in omega arith

frame_room : (width at : ℕ) → IsWidth width → at % width ≡ 0 → at + width ≤ at / 4096 * 4096 + 4096
frame_room width at w aligned = let inside = in_frame width at w aligned in omega arith

pub only_written : (blocks memory : List ℕ) (offset width value : ℕ) → IsWidth width → LieIn (in_blocks blocks) (length memory)
    → offset % width ≡ 0 → offset < length blocks * block_size
    → Only (in_blocks blocks) memory (pasted memory (host_place blocks offset) (little_bytes width value))
only_written blocks memory offset width value w lie aligned h =
    only_pasted (in_blocks blocks) memory place (little_bytes width value) (room (frame_room width place w there) (lie (place / 4096) (place_named blocks offset h)))
    (λ at from to. ap (in_blocks blocks) (same_frame width place at w there from (rw (length-bytes_low_first 0 width value) at to)) ∙ place_named blocks offset h)
  where
    place : ℕ
    place = host_place blocks offset

    there : place % width ≡ 0
    there = host_aligned blocks offset width w aligned

    room : place + width ≤ place / 4096 * 4096 + 4096 → place / 4096 * 4096 + 4096 ≤ length memory → place + length (little_bytes width value) ≤ length memory
    room fits held = rw (length-bytes_low_first 0 width value) (omega (arith, fits, held))

-- an address, by its offset
offset_multiple : (width at offset : ℕ) → IsWidth width → at ≡ 0x80000000 + offset → at % width ≡ 0 → offset % width ≡ 0
offset_multiple width at offset (inl e) is aligned = rw e (omega arith)
offset_multiple width at offset (inr (inl e)) is aligned = let a : at % 2 ≡ 0 = rw (← e) aligned in rw e (omega arith)
offset_multiple width at offset (inr (inr (inl e))) is aligned = let a : at % 4 ≡ 0 = rw (← e) aligned in rw e (omega arith)
offset_multiple width at offset (inr (inr (inr e))) is aligned = let a : at % 8 ≡ 0 = rw (← e) aligned in rw e (omega arith)

pub aligned_offset : (width at offset : ℕ) → IsWidth width → at ≡ ram_base + offset → at % width ≡ 0 → offset % width ≡ 0
aligned_offset width at offset w is aligned = offset_multiple width at offset w is aligned

pub shown : (blocks memory : List ℕ) (at offset width : ℕ) → IsWidth width → LieIn (in_blocks blocks) (length memory) → at ≡ ram_base + offset → at % width ≡ 0
    → offset < length blocks * block_size → is_inside (ram_memory (ram_of blocks memory)) at width ≡ true
shown blocks memory at offset width w lie is aligned h =
    let size = ram_length blocks memory (blocks_lie_in blocks (length memory) lie) in
    let room = inside_ram blocks offset width w (offset_multiple width at offset w is aligned) h in
    and_from (nat_le ram_base at) (nat_le (at + width) (ram_base + length (ram_of blocks memory)))
    (le-leb ram_base at (omega (arith, is))) (le-leb (at + width) (ram_base + length (ram_of blocks memory)) (omega (arith, is, size, room)))

some_width : (width : ℕ) → IsWidth width → 0 < width
some_width width (inl e) = omega arith
some_width width (inr (inl e)) = omega arith
some_width width (inr (inr (inl e))) = omega arith
some_width width (inr (inr (inr e))) = omega arith

pub hidden : (blocks memory : List ℕ) (at width : ℕ) → IsWidth width → LieIn (in_blocks blocks) (length memory)
    → (ram_base ≤ at → ram_base + length blocks * block_size ≤ at) → is_inside (ram_memory (ram_of blocks memory)) at width ≡ false
hidden blocks memory at width w lie out = by (cases_lt at ram_base)
  where
    size : length (ram_of blocks memory) ≡ length blocks * block_size
    size = ram_length blocks memory (blocks_lie_in blocks (length memory) lie)

    by : (at < ram_base) ⊎ (ram_base ≤ at) → is_inside (ram_memory (ram_of blocks memory)) at width ≡ false
    by (inl below) = and_left (nat_le ram_base at) (nat_le (at + width) (ram_base + length (ram_of blocks memory))) (lt-leb ram_base at below)
    by (inr from) =
        and_right (nat_le ram_base at) (nat_le (at + width) (ram_base + length (ram_of blocks memory)))
        (lt-leb (at + width) (ram_base + length (ram_of blocks memory)) (omega (arith, size, out from, some_width width w)))

-- what a view's calls answer
offset_back : (at offset : ℕ) → at ≡ 0x80000000 + offset → at - 0x80000000 ≡ offset
offset_back at offset is = omega arith

pub got : (blocks memory : List ℕ) (at offset width value : ℕ) → IsWidth width → LieIn (in_blocks blocks) (length memory) → at ≡ ram_base + offset → at % width ≡ 0
    → offset < length blocks * block_size → value ≡ load (ram_of blocks memory) offset width → Some value ≡ number_at (ram_memory (ram_of blocks memory)) at width
got blocks memory at offset width value w lie is aligned h e =
    rw (shown blocks memory at offset width w lie is aligned h, offset_back at offset is, e) refl

pub got_none : (blocks memory : List ℕ) (at width : ℕ) → IsWidth width → LieIn (in_blocks blocks) (length memory)
    → (ram_base ≤ at → ram_base + length blocks * block_size ≤ at) → None ≡ number_at (ram_memory (ram_of blocks memory)) at width
got_none blocks memory at width w lie out = rw (hidden blocks memory at width w lie out) refl

pub put_there : (blocks memory bytes : List ℕ) (at offset width value : ℕ) → IsWidth width → LieIn (in_blocks blocks) (length memory) → at ≡ ram_base + offset → at % width ≡ 0
    → offset < length blocks * block_size → bytes ≡ pasted (ram_of blocks memory) offset (little_bytes width value) → bytes ≡ bytes_with (ram_memory (ram_of blocks memory)) at width value
put_there blocks memory bytes at offset width value w lie is aligned h e =
    rw (shown blocks memory at offset width w lie is aligned h, offset_back at offset is) e

pub put_nowhere : (blocks memory : List ℕ) (at width value : ℕ) → IsWidth width → LieIn (in_blocks blocks) (length memory)
    → (ram_base ≤ at → ram_base + length blocks * block_size ≤ at) → ram_of blocks memory ≡ bytes_with (ram_memory (ram_of blocks memory)) at width value
put_nowhere blocks memory at width value w lie out = rw (hidden blocks memory at width w lie out) refl

-- RAM is of whole blocks
blocks_whole : (size count : ℕ) → size ≡ count * block_size → size % 4096 ≡ 0
blocks_whole size count is = rw is (omega arith)

pub ram_whole : (blocks memory : List ℕ) → LieIn (in_blocks blocks) (length memory) → IsWhole (ram_memory (ram_of blocks memory))
ram_whole blocks memory lie = record {
  aligned = refl;
  size = blocks_whole (length (ram_of blocks memory)) (length blocks) (ram_length blocks memory (blocks_lie_in blocks (length memory) lie));
}
