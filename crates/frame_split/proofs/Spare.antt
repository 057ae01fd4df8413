-- Spare blocks between the blocks of all parts and their roots.
use Rattle.std.proofs.Common.{◌≡◌, ℕ, ◌+◌, ◌*◌, ◌/◌, ◌<◌, ◌≤◌, ◌⊎◌, inl, inr, true, false, List, [], ◌∷◌, length, get_or, arith}
use Rattle.std.proofs.lemmas.Bool.{cases_Bool, or_cases}
use Rattle.guest_settings.specs.declared.needs.Need.{Need}
use Rattle.arch_defs.specs.Frames.{in_blocks}
use Rattle.arch_defs.specs.Layouts.{Layout, in_tables, named_by, root_frames, table_frames}
use Rattle.arch_defs.proofs.FrameSets.{block_found, in_range, one_block, range_parts}
use Rattle.frame_split.specs.Shares.{BlocksLieBelow, IsSplit, LeavesSpare, RootsLieFrom}

within_spare : (first spare k frame : ℕ) → k < spare → first + k ≡ frame / 512 → (512 * first ≤ frame) × (frame < 512 * (first + spare))
within_spare first spare k frame few is = (omega (arith, few, is), omega (arith, few, is))

module _ (needs : List Need) (parts : List Layout) (first spare frames : ℕ) (split : IsSplit needs parts frames) (behind : BlocksLieBelow first parts)
    (before : RootsLieFrom (512 * (first + spare)) parts) where
  module _ (k i : ℕ) (d : Layout) (few : k < spare) (h : i < length parts) (frame : ℕ) (named : in_blocks ((first + k) ∷ []) frame ≡ true) where
    place : (512 * first ≤ frame) × (frame < 512 * (first + spare))
    place = within_spare first spare k frame few (one_block (first + k) frame named)

    no_block : in_blocks (get_or parts i d).blocks frame ≡ true → ⊥
    no_block is =
        let found = block_found (get_or parts i d).blocks frame is in
        let below = behind i found.0 d h found.1 in
        omega (arith, below, found.2, place.0)

    no_root : root_frames (get_or parts i d) frame ≡ true → ⊥
    no_root is =
        let range = range_parts (get_or parts i d).first_root (4 * (1 + (get_or parts i d).spaces)) frame is in
        let from = before i d h in
        omega (arith, range.0, from, place.1)

    no_table : table_frames (get_or parts i d) frame ≡ true → ⊥
    no_table is =
        let after = split.roots_next i i (get_or parts i d).first_root frame d h h in
        let from = before i d h in
        omega (arith, after (in_range (get_or parts i d).first_root (4 * (1 + (get_or parts i d).spaces)) (get_or parts i d).first_root (omega arith) (omega arith)) is, from, place.1)

    spare_apart : named_by (get_or parts i d) frame ≡ false
    spare_apart = by (cases_Bool (named_by (get_or parts i d) frame))
      where
        in_table : (root_frames (get_or parts i d) frame ≡ true) ⊎ (table_frames (get_or parts i d) frame ≡ true) → ⊥
        in_table (inl is) = no_root is
        in_table (inr is) = no_table is

        here : (in_blocks (get_or parts i d).blocks frame ≡ true) ⊎ (in_tables (get_or parts i d) frame ≡ true) → ⊥
        here (inl is) = no_block is
        here (inr is) = in_table (or_cases (root_frames (get_or parts i d) frame) (table_frames (get_or parts i d) frame) is)

        by : (named_by (get_or parts i d) frame ≡ true) ⊎ (named_by (get_or parts i d) frame ≡ false) → named_by (get_or parts i d) frame ≡ false
        by (inl is) = absurd (here (or_cases (in_blocks (get_or parts i d).blocks frame) (in_tables (get_or parts i d) frame) is))
        by (inr free) = free

  pub spare_left : 512 * (first + spare) ≤ frames → LeavesSpare first spare parts frames
  spare_left most = record {
    behind = behind;
    before = before;
    apart = λ k i d few h frame named. spare_apart k i d few h frame named;
    lies = λ k few frame named. let place = within_spare first spare k frame few (one_block (first + k) frame named) in omega (arith, place.1, most);
  }
