-- The frames of blocks, block by block, and parts with another block.
use Rattle.std.proofs.Common.{◌≡◌, ◌≢◌, ℕ, ◌*◌, ◌/◌, ◌<◌, ◌≤◌, ◌⊎◌, inl, inr, true, false, List, [], ◌∷◌, length, slice_index, slice_set, sym, ap, subst, ◌∙◌, arith, length-set}
use Rattle.std.proofs.lemmas.Bool.{both_ways, cases_Bool, cases_eq, or_cases}
use Rattle.std.proofs.lemmas.List.{get_or-set_other, get_or-set_same}
use Rattle.arch_defs.specs.Frames.{Apart, Within, in_blocks, joined}
use Rattle.arch_defs.specs.Layouts.{Layout, NamesEachOnce, in_tables, named_by}
use Rattle.arch_defs.specs.Ram.{IsDistinct}
use Rattle.arch_defs.proofs.FrameSets.{apart_within, block_found, in_block_at, joined_within, left_within, one_block, right_within}
use Rattle.block_moves.specs.Moves.{with_block}

-- the frames of one block
pub of_one : (block frame : ℕ) → block ≡ frame / 512 → in_blocks (block ∷ []) frame ≡ true
of_one block frame is = in_block_at (block ∷ []) 0 frame (omega arith) is

pub one_within : (blocks : List ℕ) (i : ℕ) → i < length blocks → Within (in_blocks (slice_index blocks i ∷ [])) (in_blocks blocks)
one_within blocks i inside frame named = in_block_at blocks i frame inside (one_block (slice_index blocks i) frame named)

pub blocks_apart : (a b : ℕ) → a ≢ b → Apart (in_blocks (a ∷ [])) (in_blocks (b ∷ []))
blocks_apart a b other frame named = by (cases_Bool (in_blocks (b ∷ []) frame))
  where
    by : (in_blocks (b ∷ []) frame ≡ true) ⊎ (in_blocks (b ∷ []) frame ≡ false) → in_blocks (b ∷ []) frame ≡ false
    by (inl is) = absurd (other (one_block a frame named ∙ sym (one_block b frame is)))
    by (inr free) = free

pub first_frame : (block : ℕ) → block ≡ block * 512 / 512
first_frame block = omega arith

-- a block that is apart from a part is none of its blocks
pub none_is : (part : Layout) (to : ℕ) → Apart (in_blocks (to ∷ [])) (named_by part) → (j : ℕ) → j < length part.blocks → slice_index part.blocks j ≢ to
none_is part to free j inside is =
    both_ways (named_by part (to * 512)) (free (to * 512) (of_one to (to * 512) (first_frame to)))
    (left_within (in_blocks part.blocks) (in_tables part) (to * 512) (in_block_at part.blocks j (to * 512) inside (is ∙ first_frame to)))

-- with another block
pub set_within : (blocks : List ℕ) (i to : ℕ) → i < length blocks → Within (in_blocks (slice_set blocks i to)) (joined (in_blocks blocks) (in_blocks (to ∷ [])))
set_within blocks i to inside frame named =
    let found = block_found (slice_set blocks i to) frame named in
    by found.0 (omega (arith, found.1, length-set blocks i to)) found.2 (cases_eq found.0 i)
  where
    by : (j : ℕ) → j < length blocks → slice_index (slice_set blocks i to) j ≡ frame / 512 → (j ≡ i) ⊎ (j ≢ i) → joined (in_blocks blocks) (in_blocks (to ∷ [])) frame ≡ true
    by j few is (inl same) =
        right_within (in_blocks blocks) (in_blocks (to ∷ [])) frame
        (of_one to frame (sym (ap (slice_index (slice_set blocks i to)) same ∙ get_or-set_same blocks i to 0 inside) ∙ is))
    by j few is (inr other) =
        left_within (in_blocks blocks) (in_blocks (to ∷ [])) frame
        (in_block_at blocks j frame few (sym (get_or-set_other blocks i j to 0 other) ∙ is))

distinct_set : (blocks : List ℕ) (i to : ℕ) → i < length blocks → IsDistinct blocks → ((j : ℕ) → j < length blocks → slice_index blocks j ≢ to) → IsDistinct (slice_set blocks i to)
distinct_set blocks i to inside distinct none j k j_in k_in same = by (cases_eq j i) (cases_eq k i)
  where
    few : (m : ℕ) → m < length (slice_set blocks i to) → m < length blocks
    few m h = omega (arith, h, length-set blocks i to)

    here : (m : ℕ) → m ≡ i → slice_index (slice_set blocks i to) m ≡ to
    here m is = ap (slice_index (slice_set blocks i to)) is ∙ get_or-set_same blocks i to 0 inside

    there : (m : ℕ) → m ≢ i → slice_index (slice_set blocks i to) m ≡ slice_index blocks m
    there m other = get_or-set_other blocks i m to 0 other

    by : (j ≡ i) ⊎ (j ≢ i) → (k ≡ i) ⊎ (k ≢ i) → j ≡ k
    by (inl a) (inl b) = a ∙ sym b
    by (inl a) (inr b) = absurd (none k (few k k_in) (sym (there k b) ∙ sym same ∙ here j a))
    by (inr a) (inl b) = absurd (none j (few j j_in) (sym (there j a) ∙ same ∙ here k b))
    by (inr a) (inr b) = distinct j k (few j j_in) (few k k_in) (sym (there j a) ∙ same ∙ there k b)

pub once_with : (part : Layout) (i to : ℕ) → NamesEachOnce part → i < length part.blocks → Apart (in_blocks (to ∷ [])) (named_by part) → NamesEachOnce (with_block part i to)
once_with part i to once inside free = record {
  few = subst (λ n. n ≤ 32) (sym (length-set part.blocks i to)) once.few;
  distinct = distinct_set part.blocks i to inside once.distinct (none_is part to free);
  aligned = once.aligned;
  tables = λ frame named. by frame (or_cases (in_blocks part.blocks frame) (in_blocks (to ∷ []) frame) (set_within part.blocks i to inside frame named));
  roots = once.roots;
}
  where
    by : (frame : ℕ) → (in_blocks part.blocks frame ≡ true) ⊎ (in_blocks (to ∷ []) frame ≡ true) → in_tables part frame ≡ false
    by frame (inl old) = once.tables frame old
    by frame (inr new) = apart_within (in_blocks (to ∷ [])) (in_tables part) (named_by part) (right_within (in_blocks part.blocks) (in_tables part)) free frame new

-- the moved part names what the part named, and the new block, but not the old one
pub with_within : (part : Layout) (i to : ℕ) → i < length part.blocks → Within (named_by (with_block part i to)) (joined (named_by part) (in_blocks (to ∷ [])))
with_within part i to inside =
    joined_within (in_blocks (slice_set part.blocks i to)) (in_tables part) (joined (named_by part) (in_blocks (to ∷ [])))
    (λ f is. block f (or_cases (in_blocks part.blocks f) (in_blocks (to ∷ []) f) (set_within part.blocks i to inside f is)))
    (λ f is. left_within (named_by part) (in_blocks (to ∷ [])) f (right_within (in_blocks part.blocks) (in_tables part) f is))
  where
    block : (f : ℕ) → (in_blocks part.blocks f ≡ true) ⊎ (in_blocks (to ∷ []) f ≡ true) → joined (named_by part) (in_blocks (to ∷ [])) f ≡ true
    block f (inl old) = left_within (named_by part) (in_blocks (to ∷ [])) f (left_within (in_blocks part.blocks) (in_tables part) f old)
    block f (inr new) = right_within (named_by part) (in_blocks (to ∷ [])) f new

pub apart_from_moved : (part : Layout) (i to : ℕ) → NamesEachOnce part → i < length part.blocks → Apart (in_blocks (to ∷ [])) (named_by part)
    → Apart (in_blocks (slice_index part.blocks i ∷ [])) (named_by (with_block part i to))
apart_from_moved part i to once inside free frame named = by (cases_Bool (named_by (with_block part i to) frame))
  where
    from_is : slice_index part.blocks i ≡ frame / 512
    from_is = one_block (slice_index part.blocks i) frame named

    is_none : (j : ℕ) → j < length (slice_set part.blocks i to) → slice_index (slice_set part.blocks i to) j ≡ frame / 512 → (j ≡ i) ⊎ (j ≢ i) → ⊥
    is_none j few is (inl same) =
        none_is part to free i inside (from_is ∙ sym is ∙ ap (slice_index (slice_set part.blocks i to)) same ∙ get_or-set_same part.blocks i to 0 inside)
    is_none j few is (inr other) =
        other (once.distinct j i (omega (arith, few, length-set part.blocks i to)) inside (sym (get_or-set_other part.blocks i j to 0 other) ∙ is ∙ sym from_is))

    no_block : in_blocks (slice_set part.blocks i to) frame ≡ true → ⊥
    no_block is = let found = block_found (slice_set part.blocks i to) frame is in is_none found.0 found.1 found.2 (cases_eq found.0 i)

    no_frame : (in_blocks (slice_set part.blocks i to) frame ≡ true) ⊎ (in_tables part frame ≡ true) → ⊥
    no_frame (inl is) = no_block is
    no_frame (inr is) = both_ways (in_tables part frame) (once.tables frame (one_within part.blocks i inside frame named)) is

    by : (named_by (with_block part i to) frame ≡ true) ⊎ (named_by (with_block part i to) frame ≡ false) → named_by (with_block part i to) frame ≡ false
    by (inl is) = absurd (no_frame (or_cases (in_blocks (slice_set part.blocks i to) frame) (in_tables part frame) is))
    by (inr apart) = apart
