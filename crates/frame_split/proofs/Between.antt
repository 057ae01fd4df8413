-- Parts between two places.
use Rattle.std.proofs.Common.{◌≡◌, ℕ, ◌+◌, ◌*◌, ◌/◌, ◌%◌, ◌<◌, ◌≤◌, ◌⊎◌, inl, inr, true, false, List, length, slice_index, take, refl, ◌∙◌, arith}
use Rattle.std.proofs.lemmas.Bool.{cases_Bool, or_cases}
use Rattle.std.proofs.lemmas.List.{length-take-le, get_or-take}
use Rattle.guest_settings.specs.declared.needs.Need.{Need}
use Rattle.arch_defs.specs.Frames.{in_blocks, Apart, LieIn}
use Rattle.arch_defs.specs.Layouts.{Layout, NamesEachOnce, in_tables, root_frames, table_frames, named_by, Meets}
use Rattle.guest_settings.specs.Needs.{tables_for, IsNeed}
use Rattle.arch_defs.specs.Ram.{IsDistinct}
use Rattle.arch_defs.proofs.FrameSets.{range_parts, ranges_apart, block_found}
use Rattle.frame_split.specs.declared.planning.Free.{Free}
use Rattle.frame_split.specs.Shares.{after_need, LiesBetween, IsOrdered}

-- a block's frames lie between those of the places of blocks
frame_from : (first b frame : ℕ) → b ≡ frame / 512 → first ≤ b → 512 * first ≤ frame
frame_from first b frame e h = omega arith

frame_to : (last b frame : ℕ) → b ≡ frame / 512 → b < last → frame < 512 * last
frame_to last b frame e h = omega arith

pub blocks_between : (from to : Free) (part : Layout) (frame : ℕ) → LiesBetween from to part → in_blocks part.blocks frame ≡ true
    → (512 * from.block ≤ frame) × (frame < 512 * to.block)
blocks_between from to part frame lies named =
    let found = block_found part.blocks frame named in (
      frame_from from.block (slice_index part.blocks found.0) frame found.2 (lies.blocks_from found.0 found.1),
      frame_to to.block (slice_index part.blocks found.0) frame found.2 (lies.blocks_to found.0 found.1),
    )

pub roots_between : (from to : Free) (part : Layout) (frame : ℕ) → LiesBetween from to part → root_frames part frame ≡ true → (from.root ≤ frame) × (frame < to.root)
roots_between from to part frame lies named =
    let parts = range_parts part.first_root (4 * (1 + part.spaces)) frame named in
    (omega (arith, parts.0, lies.roots_from), omega (arith, parts.1, lies.roots_to))

pub tables_between : (from to : Free) (part : Layout) (frame : ℕ) → LiesBetween from to part → table_frames part frame ≡ true → (from.table ≤ frame) × (frame < to.table)
tables_between from to part frame lies named =
    let parts = range_parts part.first_table (1 + part.spaces * tables_for part.entries) frame named in
    (omega (arith, parts.0, lies.tables_from), omega (arith, parts.1, lies.tables_to))

-- where a frame of a part is
pub frame_between : (from to : Free) (part : Layout) (frame : ℕ) → LiesBetween from to part → named_by part frame ≡ true
    → ((512 * from.block ≤ frame) × (frame < 512 * to.block)) ⊎ ((from.root ≤ frame) × (frame < to.root)) ⊎ ((from.table ≤ frame) × (frame < to.table))
frame_between from to part frame lies named = by (or_cases (in_blocks part.blocks frame) (in_tables part frame) named)
  where
    in_table : (root_frames part frame ≡ true) ⊎ (table_frames part frame ≡ true)
        → ((512 * from.block ≤ frame) × (frame < 512 * to.block)) ⊎ ((from.root ≤ frame) × (frame < to.root)) ⊎ ((from.table ≤ frame) × (frame < to.table))
    in_table (inl h) = inr (inl (roots_between from to part frame lies h))
    in_table (inr h) = inr (inr (tables_between from to part frame lies h))

    by : (in_blocks part.blocks frame ≡ true) ⊎ (in_tables part frame ≡ true)
        → ((512 * from.block ≤ frame) × (frame < 512 * to.block)) ⊎ ((from.root ≤ frame) × (frame < to.root)) ⊎ ((from.table ≤ frame) × (frame < to.table))
    by (inl h) = inl (blocks_between from to part frame lies h)
    by (inr h) = in_table (or_cases (root_frames part frame) (table_frames part frame) h)

-- parts of which one ends where the other begins have no frame in common
pub parts_apart : (a b c : Free) (p q : Layout) → IsOrdered a c → LiesBetween a b p → LiesBetween b c q
    → (a.block ≤ b.block) × (a.root ≤ b.root) × (a.table ≤ b.table) → (b.block ≤ c.block) × (b.root ≤ c.root) × (b.table ≤ c.table) → Apart (named_by p) (named_by q)
parts_apart a b c p q order first second up on frame named = by (cases_Bool (named_by q frame))
  where
    both : ((512 * a.block ≤ frame) × (frame < 512 * b.block)) ⊎ ((a.root ≤ frame) × (frame < b.root)) ⊎ ((a.table ≤ frame) × (frame < b.table))
        → ((512 * b.block ≤ frame) × (frame < 512 * c.block)) ⊎ ((b.root ≤ frame) × (frame < c.root)) ⊎ ((b.table ≤ frame) × (frame < c.table)) → ⊥
    both (inl x) (inl y) = omega (arith, x.1, y.0)
    both (inl x) (inr (inl y)) = omega (arith, x.1, y.0, order.blocks, up.1, on.0)
    both (inl x) (inr (inr y)) = omega (arith, x.1, y.0, order.blocks, order.roots, up.1, on.1, on.0, up.2)
    both (inr (inl x)) (inl y) = omega (arith, x.0, y.1, order.blocks)
    both (inr (inl x)) (inr (inl y)) = omega (arith, x.1, y.0)
    both (inr (inl x)) (inr (inr y)) = omega (arith, x.1, y.0, order.roots, on.1, up.2)
    both (inr (inr x)) (inl y) = omega (arith, x.0, y.1, order.blocks, order.roots, up.1, on.1)
    both (inr (inr x)) (inr (inl y)) = omega (arith, x.0, y.1, order.roots)
    both (inr (inr x)) (inr (inr y)) = omega (arith, x.1, y.0)

    by : (named_by q frame ≡ true) ⊎ (named_by q frame ≡ false) → named_by q frame ≡ false
    by (inl here) = absurd (both (frame_between a b p frame first named) (frame_between b c q frame second here))
    by (inr free) = free

pub between_wider : (a b c : Free) (p : Layout) → (b.block ≤ c.block) × (b.root ≤ c.root) × (b.table ≤ c.table) → LiesBetween a b p → LiesBetween a c p
between_wider a b c p on lies = record {
  blocks_from = lies.blocks_from;
  blocks_to = λ i h. let below = lies.blocks_to i h in omega (arith, below, on.0);
  roots_from = lies.roots_from;
  roots_to = omega (arith, lies.roots_to, on.1);
  tables_from = lies.tables_from;
  tables_to = omega (arith, lies.tables_to, on.2);
}

pub between_later : (a b c : Free) (p : Layout) → (a.block ≤ b.block) × (a.root ≤ b.root) × (a.table ≤ b.table) → LiesBetween b c p → LiesBetween a c p
between_later a b c p up lies = record {
  blocks_from = λ i h. let above = lies.blocks_from i h in omega (arith, above, up.0);
  blocks_to = lies.blocks_to;
  roots_from = omega (arith, lies.roots_from, up.1);
  roots_to = lies.roots_to;
  tables_from = omega (arith, lies.tables_from, up.2);
  tables_to = lies.tables_to;
}

-- the frames of such a part lie in memory that the tables end in
pub between_lies : (a b : Free) (p : Layout) (frames : ℕ) → IsOrdered a b → a.root ≤ b.root → a.table ≤ b.table → b.table ≤ frames → LiesBetween a b p
    → LieIn (named_by p) (frames * 4096)
between_lies a b p frames order roots tables most lies frame named = by (frame_between a b p frame lies named)
  where
    by : ((512 * a.block ≤ frame) × (frame < 512 * b.block)) ⊎ ((a.root ≤ frame) × (frame < b.root)) ⊎ ((a.table ≤ frame) × (frame < b.table))
        → frame * 4096 + 4096 ≤ frames * 4096
    by (inl x) = omega (arith, x.1, order.blocks, order.roots, roots, tables, most)
    by (inr (inl x)) = omega (arith, x.1, order.roots, tables, most)
    by (inr (inr x)) = omega (arith, x.1, most)

-- the part of the next guest: its blocks are that many numbers from the first free one on
pub lies_after : (need : Need) (free : Free) (part : Layout) → Meets need part → ((i : ℕ) → i < length part.blocks → slice_index part.blocks i ≡ free.block + i)
    → part.first_root ≡ free.root → part.first_table ≡ free.table → LiesBetween free (after_need need free) part
lies_after need free part meets from root table = record {
  blocks_from = λ i h. let e = from i h in omega (arith, e);
  blocks_to = λ i h. let e = from i h in omega (arith, e, h, meets.blocks);
  roots_from = omega (arith, root);
  roots_to = rw (root, meets.spaces) (omega arith);
  tables_from = omega (arith, table);
  tables_to = rw (table, meets.spaces, meets.entries) (omega arith);
}

consecutive : (first : ℕ) (ns : List ℕ) → ((i : ℕ) → i < length ns → slice_index ns i ≡ first + i) → IsDistinct ns
consecutive first ns from i j i_in j_in same = let a = from i i_in in let b = from j j_in in omega (arith, a, b, same)

pub once_after : (need : Need) (free : Free) (part : Layout) → IsNeed need → Meets need part → ((i : ℕ) → i < length part.blocks → slice_index part.blocks i ≡ free.block + i)
    → part.first_root ≡ free.root → part.first_table ≡ free.table → 512 * (free.block + need.blocks) ≤ free.root → free.root + 4 * (1 + need.spaces) ≤ free.table
    → free.root % 4 ≡ 0 → NamesEachOnce part
once_after need free part limits meets from root table blocks_room roots_room aligned = record {
  few = omega (arith, meets.blocks, limits.blocks);
  distinct = consecutive free.block part.blocks from;
  aligned = rw root aligned;
  tables = λ frame named. by frame (blocks_between free (after_need need free) part frame lies named) (cases_Bool (in_tables part frame));
  roots = ranges_apart part.first_root (4 * (1 + part.spaces)) part.first_table (1 + part.spaces * tables_for part.entries)
      (rw (root, table, meets.spaces) roots_room);
}
  where
    lies : LiesBetween free (after_need need free) part
    lies = lies_after need free part meets from root table

    in_one : (frame : ℕ) → (frame < 512 * (free.block + need.blocks)) → (root_frames part frame ≡ true) ⊎ (table_frames part frame ≡ true) → ⊥
    in_one frame below (inl h) = let x = roots_between free (after_need need free) part frame lies h in omega (arith, below, x.0, blocks_room)
    in_one frame below (inr h) = let x = tables_between free (after_need need free) part frame lies h in omega (arith, below, x.0, blocks_room, roots_room)

    by : (frame : ℕ) → (512 * free.block ≤ frame) × (frame < 512 * (free.block + need.blocks)) → (in_tables part frame ≡ true) ⊎ (in_tables part frame ≡ false)
        → in_tables part frame ≡ false
    by frame inside (inl here) = absurd (in_one frame inside.1 (or_cases (root_frames part frame) (table_frames part frame) here))
    by frame inside (inr free_of) = free_of

-- the part that is made of that many slots
pub meets_here : (need : Need) (free : Free) (slots : List ℕ) → need.blocks ≤ length slots
    → Meets need (record { blocks = take need.blocks slots; first_root = free.root; first_table = free.table; spaces = need.spaces; entries = need.entries })
meets_here need free slots room = record { blocks = length-take-le need.blocks slots room; spaces = refl; entries = refl }

numbered : (need : Need) (free : Free) (slots : List ℕ) → need.blocks ≤ length slots → ((i : ℕ) → i < need.blocks → slice_index slots i ≡ free.block + i)
    → (i : ℕ) → i < length (take need.blocks slots) → slice_index (take need.blocks slots) i ≡ free.block + i
numbered need free slots room from i h =
    let inside : i < need.blocks = omega (arith, h, length-take-le need.blocks slots room) in
    get_or-take need.blocks slots i 0 inside ∙ from i inside

pub once_here : (need : Need) (free : Free) (slots : List ℕ) → IsNeed need → need.blocks ≤ length slots → ((i : ℕ) → i < need.blocks → slice_index slots i ≡ free.block + i)
    → 512 * (free.block + need.blocks) ≤ free.root → free.root + 4 * (1 + need.spaces) ≤ free.table → free.root % 4 ≡ 0
    → NamesEachOnce (record { blocks = take need.blocks slots; first_root = free.root; first_table = free.table; spaces = need.spaces; entries = need.entries })
once_here need free slots limits room from blocks roots aligned =
    once_after need free (record { blocks = take need.blocks slots; first_root = free.root; first_table = free.table; spaces = need.spaces; entries = need.entries })
    limits (meets_here need free slots room) (numbered need free slots room from) refl refl blocks roots aligned
