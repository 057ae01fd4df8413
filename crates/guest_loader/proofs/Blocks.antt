-- Block after block of a guest's RAM.
use Rattle.std.proofs.Common.{◌≡◌, ℕ, ◌+◌, ◌-◌, ◌*◌, ◌/◌, ◌%◌, ◌<◌, ◌≤◌, List, [], ◌++◌, length, slice_index, take, drop, refl, sym, ap, subst, ◌∙◌, arith}
use Rattle.std.proofs.lemmas.Nat.{div-mul-add, mod-mul-add, row_fits}
use Rattle.std.proofs.lemmas.List.{take_all, drop_all, append-nil, take-replicate, drop-replicate}
use Rattle.arch_defs.specs.Memory.{block_size, loaded, pasted, zeros}
use Rattle.arch_defs.specs.Frames.{in_blocks, LieIn, Only}
use Rattle.arch_defs.specs.Ram.{ram_of, slices, place_in, IsDistinct, SlicesLieIn}
use Rattle.arch_defs.proofs.Images.{length_zeros}
use Rattle.arch_defs.proofs.SlicesOf.{pasted_slices}
use Rattle.guest_loader.specs.Progress.{IsClearedUpTo, IsLoadedUpTo}
use Rattle.arch_defs.proofs.FrameSets.{only_pasted, only_none, only_both, in_block_at}
use Rattle.arch_defs.proofs.RamBlocks.{blocks_lie_in, ram_length}
use Rattle.guest_loader.proofs.Pieces.{next_front, next_piece}

-- a slice of any size, made what it is to be
at_slot : (size : ℕ) (ns : List ℕ) (i : ℕ) → 0 < size → place_in size ns (i * size) ≡ slice_index ns i * size
at_slot size ns i some =
    let whole : i * size ≡ i * size + 0 = omega arith in
    let quotient : i * size / size ≡ i = ap (λ n. n / size) whole ∙ div-mul-add i size 0 some in
    let rest : i * size % size ≡ 0 = ap (λ n. n % size) whole ∙ mod-mul-add i size 0 some in
    let place : slice_index ns (i * size / size) * size ≡ slice_index ns i * size = ap (λ q. slice_index ns q * size) quotient in
    omega (arith, rest, place)

slot_done : (size : ℕ) (ns memory new piece : List ℕ) (i : ℕ) → 0 < size → SlicesLieIn size ns (length memory) → IsDistinct ns → i < length ns
    → length piece ≤ size → new ≡ pasted memory (slice_index ns i * size) piece
    → slices size ns new ≡ pasted (slices size ns memory) (i * size) piece
slot_done size ns memory new piece i some lie distinct h short made =
    ap (slices size ns) (made ∙ ap (λ p. pasted memory p piece) (sym (at_slot size ns i some)))
    ∙ pasted_slices size ns memory (i * size) piece some lie distinct (omega (arith, room, some)) (omega (arith, short, room)) (omega (arith, short, rest))
  where
    room : i * size + size ≤ length ns * size
    room = row_fits i size (length ns) size h (omega arith)

    rest : i * size % size ≡ 0
    rest = let plain : i * size ≡ i * size + 0 = omega arith in ap (λ n. n % size) plain ∙ mod-mul-add i size 0 some

some_bytes : 0 < block_size
some_bytes = omega arith

-- a piece laid over a block lies in RAM
pub block_done : (blocks memory new piece : List ℕ) (i : ℕ) → LieIn (in_blocks blocks) (length memory) → IsDistinct blocks → i < length blocks
    → length piece ≤ block_size → new ≡ pasted memory (slice_index blocks i * block_size) piece
    → ram_of blocks new ≡ pasted (ram_of blocks memory) (i * block_size) piece
block_done blocks memory new piece i lie distinct h short made =
    slot_done block_size blocks memory new piece i some_bytes (blocks_lie_in blocks (length memory) lie) distinct h short made

-- the frames of a block's places
frame_in : (b at : ℕ) → b * 2097152 ≤ at → at < b * 2097152 + 2097152 → b ≡ at / 4096 / 512
frame_in b at from to = omega arith

-- and inside the block
pub block_fits : (blocks memory : List ℕ) (i : ℕ) → LieIn (in_blocks blocks) (length memory) → i < length blocks
    → slice_index blocks i * block_size + block_size ≤ length memory
block_fits blocks memory i lie h = blocks_lie_in blocks (length memory) lie i h

pub only_block : (blocks memory new piece : List ℕ) (i : ℕ) → LieIn (in_blocks blocks) (length memory) → i < length blocks → length piece ≤ block_size
    → new ≡ pasted memory (slice_index blocks i * block_size) piece → Only (in_blocks blocks) memory new
only_block blocks memory new piece i lie h short made =
    subst (Only (in_blocks blocks) memory) (sym made)
    (only_pasted (in_blocks blocks) memory (slice_index blocks i * block_size) piece
    (omega (arith, short, block_fits blocks memory i lie h))
    (λ at from to. in_block_at blocks i (at / 4096) h (frame_in (slice_index blocks i) at from (omega (arith, to, short)))))

-- the end of a block of RAM
block_end : (count i : ℕ) → i < count → i * block_size + block_size ≤ count * block_size
block_end count i h = row_fits i block_size count block_size h (omega arith)

next_block : (i : ℕ) → i * block_size + block_size ≡ (i + 1) * block_size
next_block i = omega arith

-- block after block
pub cleared_none : (blocks memory : List ℕ) → IsClearedUpTo blocks 0 memory memory
cleared_none blocks memory = record { ram = refl; only = only_none (in_blocks blocks) memory }

pub cleared_more : (blocks old between new : List ℕ) (i : ℕ) → LieIn (in_blocks blocks) (length old) → i < length blocks → IsClearedUpTo blocks i old between
    → ram_of blocks new ≡ pasted (ram_of blocks between) (i * block_size) (zeros block_size) → Only (in_blocks blocks) between new
    → IsClearedUpTo blocks (i + 1) old new
unfolding zeros
cleared_more blocks old between new i lie h so ram only = record {
  ram = ram ∙ (ap (λ r. pasted r (i * block_size) (zeros block_size)) so.ram
      ∙ (ap (pasted (take (i * block_size) whole ++ drop (i * block_size) (ram_of blocks old)) (i * block_size)) piece
      ∙ (next_front whole (ram_of blocks old) (i * block_size) block_size sizes room ∙ step)));
  only = only_both (in_blocks blocks) old between new so.only only;
}
  where
    whole : List ℕ
    whole = zeros (length blocks * block_size)

    sizes : length whole ≡ length (ram_of blocks old)
    sizes = length_zeros (length blocks * block_size) ∙ sym (ram_length blocks old (blocks_lie_in blocks (length old) lie))

    room : i * block_size + block_size ≤ length whole
    room = subst (λ n. i * block_size + block_size ≤ n) (sym (length_zeros (length blocks * block_size))) (block_end (length blocks) i h)

    left : block_size ≤ length blocks * block_size - i * block_size
    left = omega (arith, block_end (length blocks) i h)

    piece : zeros block_size ≡ take block_size (drop (i * block_size) whole)
    piece = sym (ap (take block_size) (drop-replicate (i * block_size) (length blocks * block_size) 0) ∙ take-replicate block_size (length blocks * block_size - i * block_size) 0 left)

    step : take (i * block_size + block_size) whole ++ drop (i * block_size + block_size) (ram_of blocks old)
        ≡ take ((i + 1) * block_size) whole ++ drop ((i + 1) * block_size) (ram_of blocks old)
    step = ap (λ n. take n whole ++ drop n (ram_of blocks old)) (next_block i)

pub cleared_all : (blocks old new : List ℕ) → LieIn (in_blocks blocks) (length old)
    → IsClearedUpTo blocks (length blocks) old new → ram_of blocks new ≡ zeros (length blocks * block_size)
cleared_all blocks old new lie so =
    so.ram ∙ (ap (λ xs. xs ++ drop (length blocks * block_size) (ram_of blocks old)) front
    ∙ (ap (λ ys. zeros (length blocks * block_size) ++ ys) behind ∙ append-nil (zeros (length blocks * block_size))))
  where
    front : take (length blocks * block_size) (zeros (length blocks * block_size)) ≡ zeros (length blocks * block_size)
    front = take_all (length blocks * block_size) (zeros (length blocks * block_size)) (omega (arith, length_zeros (length blocks * block_size)))

    behind : drop (length blocks * block_size) (ram_of blocks old) ≡ []
    behind = drop_all (length blocks * block_size) (ram_of blocks old) (omega (arith, ram_length blocks old (blocks_lie_in blocks (length old) lie)))

pub loaded_none : (blocks image memory : List ℕ) → ram_of blocks memory ≡ zeros (length blocks * block_size) → IsLoadedUpTo blocks image 0 memory memory
unfolding loaded
loaded_none blocks image memory zero =
    let all : length blocks * block_size ≡ length blocks * block_size - 0 = omega arith in
    record { ram = zero ∙ ap zeros all; only = only_none (in_blocks blocks) memory }

pub loaded_more : (blocks image old between new : List ℕ) (i : ℕ) → i < length blocks → length image ≤ length blocks * block_size
    → IsLoadedUpTo blocks image i old between
    → ram_of blocks new ≡ pasted (ram_of blocks between) (i * block_size) (take block_size (drop (i * block_size) image))
    → Only (in_blocks blocks) between new → IsLoadedUpTo blocks image (i + 1) old new
loaded_more blocks image old between new i h fits so ram only = record {
  ram = ram ∙ (ap (λ r. pasted r (i * block_size) (take block_size (drop (i * block_size) image))) so.ram
      ∙ (next_piece (length blocks * block_size) image (i * block_size) block_size fits (block_end (length blocks) i h)
      ∙ ap (λ n. loaded (length blocks * block_size) (take n image)) (next_block i)));
  only = only_both (in_blocks blocks) old between new so.only only;
}

pub loaded_all : (blocks image old new : List ℕ) → length image ≤ length blocks * block_size
    → IsLoadedUpTo blocks image (length blocks) old new → ram_of blocks new ≡ loaded (length blocks * block_size) image
loaded_all blocks image old new fits so =
    so.ram ∙ ap (loaded (length blocks * block_size)) (take_all (length blocks * block_size) image fits)
