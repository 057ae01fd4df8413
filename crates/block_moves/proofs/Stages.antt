-- Memory through the stages of a move: a block is copied, cleared, and the tables are written that name it.
use Rattle.std.proofs.Common.{◌≡◌, ◌≢◌, ℕ, ◌+◌, ◌*◌, ◌<◌, ◌≤◌, ◌^◌, ◌⊎◌, inl, inr, true, List, [], ◌∷◌, length, slice_index, refl, sym, ap, subst, ◌∙◌, arith, length-set}
use Rattle.std.proofs.lemmas.Bool.{or_cases}
use Rattle.arch_defs.specs.Frames.{Apart, Frames, LieIn, Only, Same, Within, in_blocks, joined}
use Rattle.arch_defs.specs.Layouts.{Layout, NamesEachOnce, host_frames, in_tables, named_by}
use Rattle.arch_defs.specs.Memory.{block_size, pasted, zeros}
use Rattle.arch_defs.specs.Ram.{ram_of}
use Rattle.arch_defs.proofs.FrameSets.{apart_sym, apart_within, kept, left_within, only_both, only_more, right_within, same_both, within_apart}
use Rattle.arch_defs.proofs.RamBlocks.{blocks_lie_in}
use Rattle.phys_mem.specs.MemoryBytes.{block_of}
use Rattle.host_tables.specs.HostTable.{IsHostTable}
use Rattle.host_tables.specs.Walks.{IsHeld}
use Rattle.host_tables.proofs.Held.{host_apart_from_blocks, host_in_part, table_stays}
use Rattle.shadow_space.specs.Moves.{IsMovedPart}
use Rattle.shadow_space.specs.Shadows.{AreZeros}
use Rattle.shadow_pool.specs.Slots.{Pooled, TidyPool, pool_frames, room_of, table_frames_for}
use Rattle.shadow_pool.proofs.Apart.{host_apart, pool_within, ram_apart}
use Rattle.shadow_pool.proofs.Front.{pool_lasts}
use Rattle.block_moves.specs.Moves.{block_cleared, block_copied, with_block}
use Rattle.block_moves.proofs.Blocks.{blocks_apart, none_is, one_within, with_within}
use Rattle.block_moves.proofs.Copies.{cleared_only, cleared_zeros, copy_pasted, only_block, slice_laid, slice_long, zeros_pasted}
use Rattle.block_moves.proofs.RamMoving.{block_stays, ram_moves}

module _ (part moved : Layout) (pool : Pooled) (i to from : ℕ) (m0 : List ℕ) (once : NamesEachOnce part) (moved_is : moved ≡ with_block part i to) (from_is : from ≡ slice_index part.blocks i)
    (held : IsHeld part m0) (own : pool.part ≡ part) (tidy : TidyPool pool m0) (index : i < length part.blocks)
    (free : Apart (in_blocks (to ∷ [])) (named_by part)) (lies : LieIn (in_blocks (to ∷ [])) (length m0)) where
  -- the frames that change
  abbrev there : Frames
  there = in_blocks (to ∷ [])

  abbrev here : Frames
  here = in_blocks (from ∷ [])

  abbrev host : Frames
  host = host_frames part

  abbrev spaces : Frames
  spaces = pool_frames pool

  blocks_lie : LieIn (in_blocks part.blocks) (length m0)
  blocks_lie f is = held.lies f (left_within (in_blocks part.blocks) (in_tables part) f is)

  pub there_fits : to * block_size + block_size ≤ length m0
  there_fits = blocks_lie_in (to ∷ []) (length m0) lies 0 (omega arith)

  pub here_fits : from * block_size + block_size ≤ length m0
  here_fits = subst (λ b. b * block_size + block_size ≤ length m0) (sym from_is) (blocks_lie_in part.blocks (length m0) blocks_lie i index)

  -- they are apart
  here_within : Within here (in_blocks part.blocks)
  here_within = subst (λ b. Within (in_blocks (b ∷ [])) (in_blocks part.blocks)) (sym from_is) (one_within part.blocks i index)

  blocks_within : Within (in_blocks part.blocks) (named_by part)
  blocks_within = left_within (in_blocks part.blocks) (in_tables part)

  spaces_are : spaces ≡ table_frames_for part (room_of pool)
  spaces_are = ap (λ p. table_frames_for p (room_of pool)) own

  room : room_of pool ≤ part.spaces
  room = subst (λ p. room_of pool ≤ p.spaces) own tidy.slots.own

  spaces_within : Within spaces (named_by part)
  spaces_within = subst (λ frames. Within frames (named_by part)) (sym spaces_are) (pool_within part (room_of pool) room)

  blocks_spaces : Apart (in_blocks part.blocks) spaces
  blocks_spaces = subst (Apart (in_blocks part.blocks)) (sym spaces_are) (ram_apart part once (room_of pool) room)

  host_spaces : Apart host spaces
  host_spaces = subst (Apart host) (sym spaces_are) (host_apart part once (room_of pool) room)

  blocks_host : Apart (in_blocks part.blocks) host
  blocks_host = apart_sym host (in_blocks part.blocks) (host_apart_from_blocks part once)

  there_here : Apart there here
  there_here = apart_within there here (in_blocks part.blocks) here_within (apart_within there (in_blocks part.blocks) (named_by part) blocks_within free)

  there_host : Apart there host
  there_host = apart_within there host (named_by part) (host_in_part part) free

  there_spaces : Apart there spaces
  there_spaces = apart_within there spaces (named_by part) spaces_within free

  here_host : Apart here host
  here_host = within_apart here (in_blocks part.blocks) host here_within blocks_host

  here_spaces : Apart here spaces
  here_spaces = within_apart here (in_blocks part.blocks) spaces here_within blocks_spaces

  pub is_moved : IsMovedPart pool.part moved
  is_moved = subst (λ p. IsMovedPart p moved) (sym own) (subst (IsMovedPart part) (sym moved_is) (record { others = refl; number = length-set part.blocks i to }))

  -- the moved part lies in memory
  moved_within : Within (named_by moved) (joined (named_by part) there)
  moved_within = subst (λ p. Within (named_by p) (joined (named_by part) there)) (sym moved_is) (with_within part i to index)

  moved_lies : LieIn (named_by moved) (length m0)
  moved_lies f is = by (or_cases (named_by part f) (there f) (moved_within f is))
    where
      by : (named_by part f ≡ true) ⊎ (there f ≡ true) → f * 4096 + 4096 ≤ length m0
      by (inl old) = held.lies f old
      by (inr new) = lies f new

  -- the block is copied
  module _ (m1 : List ℕ) (copy_is : m1 ≡ block_copied from to m0) where
    m1_is : m1 ≡ pasted m0 (to * block_size) (block_of from m0)
    m1_is = copy_is ∙ copy_pasted from to m0

    copied : Only there m0 m1
    copied =
        subst (Only there m0) (sym m1_is)
        (only_block to m0 (block_of from m0) (subst (λ n. to * block_size + n ≤ length m0) (sym (slice_long block_size from m0 here_fits)) there_fits) (slice_long block_size from m0 here_fits))

    has_bytes : block_of to m1 ≡ block_of from m0
    has_bytes = ap (block_of to) m1_is ∙ slice_laid block_size to m0 there_fits (block_of from m0) (slice_long block_size from m0 here_fits)

    pub here_fits' : from * block_size + block_size ≤ length m1
    here_fits' = subst (λ n. from * block_size + block_size ≤ n) (sym copied.size) here_fits

    -- and the old one cleared
    module _ (m2 : List ℕ) (cleared_is : m2 ≡ block_cleared from m1) where
      m2_is : m2 ≡ pasted m1 (from * block_size) (zeros block_size)
      m2_is = cleared_is ∙ zeros_pasted from m1

      cleared : Only here m1 m2
      cleared = cleared_only from m1 m2 here_fits' m2_is

      are_zeros : AreZeros here m2
      are_zeros = cleared_zeros from m1 m2 here_fits' m2_is

      size2 : length m2 ≡ length m0
      size2 = cleared.size ∙ copied.size

      pub moved_lies' : LieIn (named_by moved) (length m2)
      moved_lies' = subst (LieIn (named_by moved)) (sym size2) moved_lies

      -- the host table is written
      module _ (m3 : List ℕ) (table : IsHostTable moved m3) (written : Only (host_frames moved) m2 m3) where
        built : Only host m2 m3
        built = subst (λ p. Only (host_frames p) m2 m3) moved_is written

        pub spaces_stay : TidyPool pool m3
        spaces_stay =
            pool_lasts pool m0 m3
            (same_both spaces m0 m1 m3 (kept spaces there m0 m1 (apart_sym there spaces there_spaces) copied)
            (same_both spaces m1 m2 m3 (kept spaces here m1 m2 (apart_sym here spaces here_spaces) cleared) (kept spaces host m2 m3 (apart_sym host spaces host_spaces) built))) tidy

        -- and the folded leaves
        module _ (m4 : List ℕ) (folded : Only spaces m3 m4) where
          size4 : length m4 ≡ length m0
          size4 = folded.size ∙ built.size ∙ size2

          tables_apart : (frames : Frames) → Apart frames host → Apart frames spaces → Same frames m2 m4
          tables_apart frames one two = same_both frames m2 m3 m4 (kept frames host m2 m3 one built) (kept frames spaces m3 m4 two folded)

          pub is_held : IsHeld moved m4
          is_held = record {
            size = subst (λ n. n ≤ 2 ^ 29) (sym size4) held.size;
            lies = subst (LieIn (named_by moved)) (sym size4) moved_lies;
            table = table_stays moved m3 m4 (kept (host_frames moved) spaces m3 m4 (subst (λ p. Apart (host_frames p) spaces) (sym moved_is) host_spaces) folded) table;
          }

          still_zeros : AreZeros here m4
          still_zeros = let same = tables_apart here here_host here_spaces in record { each = λ at named. same.bytes at named ∙ are_zeros.each at named }

          pub here_zeros : AreZeros (in_blocks (slice_index part.blocks i ∷ [])) m4
          here_zeros = subst (λ b. AreZeros (in_blocks (b ∷ [])) m4) from_is still_zeros

          moved_bytes : block_of to m4 ≡ block_of (slice_index part.blocks i) m0
          moved_bytes =
              block_stays to m1 m4 (subst (λ n. to * block_size + block_size ≤ n) (sym copied.size) there_fits)
              (same_both there m1 m2 m4 (kept there here m1 m2 there_here cleared) (tables_apart there there_host there_spaces))
              ∙ has_bytes ∙ ap (λ b. block_of b m0) from_is

          other_bytes : (j : ℕ) → j < length part.blocks → j ≢ i → block_of (slice_index part.blocks j) m4 ≡ block_of (slice_index part.blocks j) m0
          other_bytes j inside other =
              block_stays (slice_index part.blocks j) m0 m4 (blocks_lie_in part.blocks (length m0) blocks_lie j inside)
              (same_both that m0 m1 m4 (kept that there m0 m1 (blocks_apart (slice_index part.blocks j) to (none_is part to free j inside)) copied)
              (same_both that m1 m2 m4 (kept that here m1 m2 (blocks_apart (slice_index part.blocks j) from differs) cleared)
              (tables_apart that (within_apart that (in_blocks part.blocks) host that_within blocks_host) (within_apart that (in_blocks part.blocks) spaces that_within blocks_spaces))))
            where
              that : Frames
              that = in_blocks (slice_index part.blocks j ∷ [])

              that_within : Within that (in_blocks part.blocks)
              that_within = one_within part.blocks j inside

              differs : slice_index part.blocks j ≢ from
              differs same = other (once.distinct j i inside index (same ∙ from_is))

          pub same_ram : ram_of moved.blocks m4 ≡ ram_of part.blocks m0
          same_ram = ap (λ p. ram_of p.blocks m4) moved_is ∙ ram_moves part.blocks m0 m4 i to index moved_bytes other_bytes

          pub only_these : Only (joined (named_by part) there) m0 m4
          only_these =
              only_both all m0 m1 m4 (only_more there all m0 m1 (right_within (named_by part) there) copied)
              (only_both all m1 m2 m4 (only_more here all m1 m2 (λ f is. left_within (named_by part) there f (blocks_within f (here_within f is))) cleared)
              (only_both all m2 m3 m4 (only_more host all m2 m3 (λ f is. left_within (named_by part) there f (host_in_part part f is)) built)
              (only_more spaces all m3 m4 (λ f is. left_within (named_by part) there f (spaces_within f is)) folded)))
            where
              all : Frames
              all = joined (named_by part) there
