-- Bytes with a slice laid over another one of the same size.
use Rattle.std.proofs.Common.{◌≡◌, ℕ, ◌+◌, ◌-◌, ◌*◌, ◌/◌, ◌<◌, ◌≤◌, List, [], ◌∷◌, ◌++◌, length, get_or, take, drop, refl, sym, ap, subst, ◌∙◌, arith, length-drop}
use Rattle.std.proofs.lemmas.List.{append_assoc, drop_at, get_or-replicate, length-take-le}
use Rattle.arch_defs.specs.Frames.{Only, in_blocks}
use Rattle.arch_defs.specs.Memory.{block_size, pasted, zeros}
use Rattle.arch_defs.proofs.FrameSets.{one_block, only_pasted}
use Rattle.arch_defs.proofs.Pastes.{length_pasted, pasted_inside}
use Rattle.phys_mem.specs.MemoryBytes.{block_of}
use Rattle.phys_mem.proofs.PiecesLaid.{taken_front}
use Rattle.shadow_space.specs.Shadows.{AreZeros}
use Rattle.block_moves.specs.Moves.{block_cleared, block_copied}
use Rattle.block_moves.proofs.Blocks.{of_one}
use Rattle.arch_defs.proofs.Images.{length_zeros}

-- a slice of that many bytes is as long, and a piece that is laid over it is what stands there
module _ (size n : ℕ) (bytes : List ℕ) (fits : n * size + size ≤ length bytes) where
  pub slice_long : length (take size (drop (n * size) bytes)) ≡ size
  slice_long = length-take-le size (drop (n * size) bytes) (omega (arith, length-drop (n * size) bytes, fits))

  pub slice_laid : (piece : List ℕ) → length piece ≡ size → take size (drop (n * size) (pasted bytes (n * size) piece)) ≡ piece
  slice_laid piece long =
      ap (take size) (ap (drop (n * size)) (append_assoc (take (n * size) bytes) piece (drop (n * size + length piece) bytes))
      ∙ drop_at (take (n * size) bytes) (piece ++ drop (n * size + length piece) bytes) (n * size) (length-take-le (n * size) bytes (omega (arith, fits))))
      ∙ taken_front piece (drop (n * size + length piece) bytes) size long

-- what is laid over memory by a copy, and by clearing
pub copy_pasted : (from to : ℕ) (memory : List ℕ) → block_copied from to memory ≡ pasted memory (to * block_size) (block_of from memory)
unfolding block_copied
copy_pasted from to memory = refl

pub zeros_pasted : (block : ℕ) (memory : List ℕ) → block_cleared block memory ≡ pasted memory (block * block_size) (zeros block_size)
unfolding block_cleared
zeros_pasted block memory = refl

-- memory with a block copied over another one is as long
pub copied_size : (from to : ℕ) (old new : List ℕ) → from * block_size + block_size ≤ length old → to * block_size + block_size ≤ length old
    → new ≡ pasted old (to * block_size) (block_of from old) → length new ≡ length old
copied_size from to old new source target is =
    ap length is ∙ length_pasted old (to * block_size) (block_of from old) (subst (λ n. to * block_size + n ≤ length old) (sym (slice_long block_size from old source)) target)

-- a place of a block is in its frames
in_its_block : (n place : ℕ) → n * 2097152 ≤ place → place < n * 2097152 + 2097152 → n ≡ place / 4096 / 512
in_its_block n place from to = omega (arith, from, to)

pub only_block : (n : ℕ) (bytes piece : List ℕ) → n * block_size + length piece ≤ length bytes → length piece ≡ block_size → Only (in_blocks (n ∷ [])) bytes (pasted bytes (n * block_size) piece)
only_block n bytes piece fits long =
    only_pasted (in_blocks (n ∷ [])) bytes (n * block_size) piece fits
    (λ place from to. of_one n (place / 4096) (in_its_block n place from (inside (n * block_size) (length piece) block_size place to long)))
  where
    inside : (at k size place : ℕ) → place < at + k → k ≡ size → place < at + size
    inside at k size place h is = omega (arith, h, is)

-- a place among zeros
zero_at : (n k : ℕ) → k < n → get_or (zeros n) k 0 ≡ 0
unfolding zeros
zero_at n k h = get_or-replicate n k 0 0 h

-- the place of a block's frame
place_from : (block at : ℕ) → block ≡ at / 4096 / 512 → block * 2097152 ≤ at
place_from block at is = omega (arith, is)

place_to : (block at k : ℕ) → block ≡ at / 4096 / 512 → k ≡ 2097152 → at < block * 2097152 + k
place_to block at k is long = omega (arith, is, long)

offset_in : (at base k size : ℕ) → base ≤ at → at < base + k → k ≡ size → at - base < size
offset_in at base k size from to long = omega (arith, from, to, long)

fits_before : (at k size : ℕ) → at + k ≤ size → at ≤ size
fits_before at k size h = omega (arith, h)

-- a block that is cleared
module _ (n : ℕ) (old new : List ℕ) (fits : n * block_size + block_size ≤ length old) (is : new ≡ pasted old (n * block_size) (zeros block_size)) where
  pub cleared_only : Only (in_blocks (n ∷ [])) old new
  cleared_only =
      subst (Only (in_blocks (n ∷ [])) old) (sym is)
      (only_block n old (zeros block_size) (subst (λ k. n * block_size + k ≤ length old) (sym (length_zeros block_size)) fits) (length_zeros block_size))

  pub cleared_zeros : AreZeros (in_blocks (n ∷ [])) new
  cleared_zeros = record {
    each = λ at named.
        let block = one_block n (at / 4096) named in
        let first = place_from n at block in
        let last = place_to n at (length (zeros block_size)) block (length_zeros block_size) in
        ap (λ bytes. get_or bytes at 0) is
        ∙ pasted_inside old (n * block_size) (zeros block_size) at (fits_before (n * block_size) block_size (length old) fits) first last
        ∙ zero_at block_size (at - n * block_size) (offset_in at (n * block_size) (length (zeros block_size)) block_size first last (length_zeros block_size));
  }
