-- Tidy spaces.
use Rattle.std.proofs.Common.{◌≡◌, ◌≢◌, ℕ, ◌+◌, ◌-◌, ◌*◌, ◌/◌, ◌%◌, ◌<◌, ◌≤◌, ◌^◌, ◌⊎◌, inl, inr, Bool, true, false, List, [], Option, Some, None, length, slice_index, refl, sym, ap, subst, ◌∙◌, arith}
use Rattle.std.specs.List.{All, AllPairs}
use Rattle.std.proofs.lemmas.Bool.{both_ways, cases_lt, le-ltb, lt-ltb}
use Rattle.std.proofs.lemmas.List.Elements.{All-nil}
use Rattle.std.proofs.lemmas.Nat.{mul-le}
use Rattle.arch_defs.specs.declared.cached.Entry.{Entry}
use Rattle.arch_defs.specs.declared.modes.Access.{Access}
use Rattle.arch_defs.specs.declared.walks.Next.TheVariants.{Ends}
use Rattle.arch_defs.specs.Frames.{Apart, LieIn, Same, within}
use Rattle.arch_defs.specs.Layouts.{Layout, NamesEachOnce, space_frames}
use Rattle.arch_defs.specs.Memory.{block_size, ram_base}
use Rattle.arch_defs.specs.TableEntries.{pte_of, pte_word, entry_next, is_aligned}
use Rattle.arch_defs.specs.Walk.{EntryReading, guest_bits, path, walk}
use Rattle.arch_defs.proofs.FrameSets.{in_range}
use Rattle.stage_walk.proofs.Levels.{walk_refused, walk_starts}
use Rattle.shadow_space.specs.declared.cached.CachedTable.{CachedTable}
use Rattle.shadow_space.specs.declared.writing.Tables.{Tables}
use Rattle.arch_defs.specs.CachedEntries.{CanFill, HasOtherPage, entry_at, guest_page_bits, is_device}
use Rattle.shadow_space.specs.Folding.{LastIs, LieWithin, leaf_end}
use Rattle.guest_settings.specs.Needs.{tables_for}
use Rattle.shadow_space.specs.Laws.{TidyIsFolded, TidyLasts}
use Rattle.shadow_space.specs.declared.frames.TableFrames.{TableFrames}
use Rattle.shadow_space.specs.Held.{HoldsList, IsKept, Stands, held_in, number_of, Holds, KeepsTable}
use Rattle.shadow_space.specs.Leaves.{frame_of_ram, leaf_word_if, leaf_parts, leaf_word, leaves}
use Rattle.shadow_space.specs.Shadows.{AreZeros, HasSmallNumbers, IsShadow, IsTidy, Shadow, Tidy, own_frames, root_of, tables_in, shadow_of}
use Rattle.shadow_space.specs.Trees.{HasTables, IsOwn, RootIsApart, folded_shape, frames_of, top}
use Rattle.guest_settings.specs.Limits.{most_entries}
use Rattle.table_words.specs.Words.{doubleword_at}
use Rattle.table_words.proofs.Words.{word_kept}
use Rattle.shadow_space.proofs.Starting.{zeros_stand}
use Rattle.stage_walk.proofs.EntryWords.{leaf_gives_rights, reads_back, some_with_v, zero_maps_nothing}
use Rattle.table_words.specs.Entries.{ReadsIn}
use Rattle.table_words.proofs.Readings.{entry_read}
use Rattle.shadow_space.proofs.Finding.{found_has}
use Rattle.shadow_space.proofs.Following.{Reads, folds, inside_root, last_is}
use Rattle.shadow_space.proofs.Slots.{own_frame}

-- two ranges that are apart come one after the other
ordered : (a m b n : ℕ) → 0 < m → 0 < n → Apart (within a m) (within b n) → (a + m ≤ b) ⊎ (b + n ≤ a)
ordered a m b n some some' apart = by (cases_lt b (a + m)) (cases_lt a (b + n))
  where
    both : (frame : ℕ) → a ≤ frame → frame < a + m → b ≤ frame → frame < b + n → ⊥
    both frame from to from' to' = both_ways (within b n frame) (apart frame (in_range a m frame from to)) (in_range b n frame from' to')

    by : (b < a + m) ⊎ (a + m ≤ b) → (a < b + n) ⊎ (b + n ≤ a) → (a + m ≤ b) ⊎ (b + n ≤ a)
    by (inr before) way = inl before
    by (inl h) (inr after) = inr after
    by (inl h) (inl h') = by_first (cases_lt a b)
      where
        by_first : (a < b) ⊎ (b ≤ a) → (a + m ≤ b) ⊎ (b + n ≤ a)
        by_first (inl x) = absurd (both b (omega arith) h (omega arith) (omega arith))
        by_first (inr x) = absurd (both a (omega arith) (omega arith) x h')

-- where a space's tables lie
pub tables_end : (index spaces each : ℕ) → index < spaces → index * each + each ≤ spaces * each
tables_end index spaces each h = omega (arith, mul-le (index + 1) each spaces each (omega arith) (omega arith), one_more index each)
  where
    one_more : (i e : ℕ) → (i + 1) * e ≡ i * e + e
    one_more i e = grind arith

pub tables_apart : (space : Shadow) → IsShadow space → RootIsApart (tables_in space.part space.index)
tables_apart space is = by (ordered space.part.first_root (4 * (1 + space.part.spaces)) space.part.first_table (1 + space.part.spaces * tables_for space.part.entries) (omega arith) (omega arith) is.once.roots)
  where
    end : space.index * tables_for space.part.entries + tables_for space.part.entries ≤ space.part.spaces * tables_for space.part.entries
    end = tables_end space.index space.part.spaces (tables_for space.part.entries) is.index

    by : (space.part.first_root + 4 * (1 + space.part.spaces) ≤ space.part.first_table) ⊎ (space.part.first_table + (1 + space.part.spaces * tables_for space.part.entries) ≤ space.part.first_root)
        → RootIsApart (tables_in space.part space.index)
    by (inl before) = let below = is.index in inl (omega (arith, before, below))
    by (inr after) = inr (omega (arith, after, end))

pub few_frames : (index each : ℕ) → index < 2 ^ 16 → each < 2 ^ 18 → index * each < 2 ^ 34
few_frames index each h h' = omega (arith, mul-le index each 65535 262143 (omega arith) (omega arith))

few_tables : (index spaces entries : ℕ) → index < spaces → spaces < 2 ^ 16 → entries < 2 ^ 16 → index * tables_for entries + tables_for entries ≤ 65536 * tables_for 65536
few_tables index spaces entries h small small' =
    omega (arith, tables_end index spaces (tables_for entries) h, mul-le spaces (tables_for entries) 65536 (tables_for 65536) (omega arith) (omega arith))

pub tables_placed : (space : Shadow) (size : ℕ) → IsShadow space → LieIn (own_frames space) size → HasTables (tables_in space.part space.index) size
tables_placed space size is lies =
    let small = is.small in
    let index = is.index in
    let end = few_tables space.index space.part.spaces space.part.entries is.index small.spaces small.entries in
    let table = small.table in
    let root = small.root in
    let spaces = small.spaces in
    record { lies = lies; root = omega (arith, root, index, spaces); others = omega (arith, end, table) }

pub root_aligned : (part : Layout) (index : ℕ) → NamesEachOnce part → (part.first_root + 4 * (1 + index)) % 4 ≡ 0
root_aligned part index once = omega (arith, once.aligned)

-- a frame of the tables has a small number
pub own_small : (tables : Tables) (f size : ℕ) → HasTables tables size → IsOwn tables f → f < 2 ^ 44
own_small tables f size placed (inl is) = omega (arith, is, placed.root)
own_small tables f size placed (inr range) = omega (arith, range.1, placed.others)

pub tidy_parts : (space : Shadow) (memory : List ℕ) → Tidy space memory → IsTidy space memory
unfolding Tidy
tidy_parts space memory tidy = tidy

pub tidy_from : (space : Shadow) (memory : List ℕ) → IsTidy space memory → Tidy space memory
unfolding Tidy
tidy_from space memory tidy = tidy

-- a space stays tidy where its frames stay
stands_kept : (tables : Tables) (number : ℕ → ℕ → ℕ) (leaf : ℕ → ℕ) (entries : List Entry) (frames : TableFrames) (old new : List ℕ)
    → Same (frames_of tables) old new → Stands tables number leaf entries (held_in frames old) → Stands tables number leaf entries (held_in frames new)
stands_kept tables number leaf entries frames old new same stands = record {
  tree = stands.tree;
  sound = stands.sound;
  says = record {
    words = λ f s own slot. word_kept (frames_of tables) old new (512 * f + s) same (own_frame tables f s own slot) ∙ stands.says.words f s own slot;
    nothing = stands.says.nothing;
  };
  counted = stands.counted;
  index = stands.index;
}

pub lasts : TidyLasts
lasts space old new same tidy =
    let parts = tidy_parts space old tidy in
    let holds = parts.holds in
    tidy_from space new (record {
      is = parts.is;
      lies = subst (λ n. LieIn (own_frames space) n) (sym same.size) parts.lies;
      holds = record {
        placed = subst (λ n. HasTables (tables_in space.part space.index) n) (sym same.size) holds.placed;
        count = holds.count;
        bound = holds.bound;
        few = holds.few;
        fill = holds.fill;
        pages = holds.pages;
        kept = holds.kept;
        stands = stands_kept (tables_in space.part space.index) (number_of space.entries) (leaves space.part.blocks space.entries) space.entries space.frames old new same holds.stands;
      };
    })

-- what is read in its frames
reads_words : (tables : Tables) (memory : List ℕ) (reading : EntryReading) → ReadsIn (frames_of tables) memory reading → Reads tables (doubleword_at memory) reading
reads_words tables memory reading reads = record {
  each = λ f s own slot. entry_read (frames_of tables) memory reading f s reads (own_frame tables f s own slot);
}

-- an entry's frame in machine memory has a small number
small_place : (n off : ℕ) → n < 2 ^ 32 → (n * 2097152 + off % 2097152) / 4096 < 2 ^ 44
small_place n off h = omega arith

frame_small : (blocks : List ℕ) (e : Entry) → ((i : ℕ) → slice_index blocks i < 2 ^ 32) → frame_of_ram blocks e.frame < 2 ^ 44
frame_small blocks e small =
    small_place (slice_index blocks ((e.frame * 4096 - ram_base) / block_size)) (e.frame * 4096 - ram_base) (small ((e.frame * 4096 - ram_base) / block_size))

every : (frame : ℕ) → is_aligned 0 frame ≡ true
every frame = let one : frame % 1 ≡ 0 = omega arith in rw one refl

-- the leaf of a page ends the walk as its entry does
leaf_is_end : (blocks : List ℕ) (access : Access) (o : Option Entry) → ((i : ℕ) → slice_index blocks i < 2 ^ 32) → ((e : Entry) → o ≡ Some e → CanFill blocks e)
    → entry_next 0 access (pte_of (leaf_word_if blocks o)) ≡ Ends (leaf_end blocks access o)
leaf_is_end blocks access None small can = zero_maps_nothing 0 access
leaf_is_end blocks access (Some e) small can = by (is_device e) refl
  where
    by : (device : Bool) → is_device e ≡ device → entry_next 0 access (pte_of (leaf_word blocks e)) ≡ Ends (leaf_end blocks access (Some e))
    by true on = rw on (zero_maps_nothing 0 access)
    by false off =
        let filled = can e refl in
        rw off (leaf_gives_rights 0 (frame_of_ram blocks e.frame) e.r e.w e.x access (frame_small blocks e small) (every (frame_of_ram blocks e.frame)) filled.right filled.write)

-- one of RAM has a leaf
leaf_off : (blocks : List ℕ) (e : Entry) → is_device e ≡ false → leaf_word blocks e ≡ pte_word (leaf_parts blocks e)
leaf_off blocks e off = rw off refl

leaf_some : (blocks : List ℕ) (e : Entry) → is_device e ≡ false → leaf_word blocks e ≡ 0 → ⊥
leaf_some blocks e off zero = some_with_v (leaf_parts blocks e) refl (sym (leaf_off blocks e off) ∙ zero)

low_page : (va : ℕ) → va / 4096 < 2 ^ guest_page_bits → va < 2 ^ guest_bits
low_page va h = omega (arith, h)

small_page : (va : ℕ) → va < 2 ^ guest_bits → va / 4096 < 2 ^ guest_page_bits
small_page va h = omega (arith, h)

module _ (space : Shadow) (memory : List ℕ) (tidy : IsTidy space memory) where
  can : (page : ℕ) (e : Entry) → entry_at page space.entries ≡ Some e → CanFill space.part.blocks e × (e.page ≡ page)
  can page e found = found_has (CanFill space.part.blocks) page space.entries e tidy.is.fill found

  leaf_end_of : (page : ℕ) (access : Access) → entry_next 0 access (pte_of (leaves space.part.blocks space.entries page)) ≡ Ends (leaf_end space.part.blocks access (entry_at page space.entries))
  unfolding leaves
  leaf_end_of page access = leaf_is_end space.part.blocks access (entry_at page space.entries) tidy.is.small.blocks (λ e found. (can page e found).0)

  small_frames : (f : ℕ) → IsOwn (tables_in space.part space.index) f → f < 2 ^ 44
  small_frames f own = own_small (tables_in space.part space.index) f (length memory) (tables_placed space (length memory) tidy.is tidy.lies) own

  -- no entry is of a page beyond these bits of address
  pub no_entry : (va : ℕ) → 2 ^ guest_bits ≤ va → entry_at (va / 4096) space.entries ≡ None
  no_entry va high = by (entry_at (va / 4096) space.entries) refl
    where
      by : (o : Option Entry) → entry_at (va / 4096) space.entries ≡ o → entry_at (va / 4096) space.entries ≡ None
      by None is = is
      by (Some e) is =
          let filled = can (va / 4096) e is in
          let page = filled.0.page in
          absurd (omega (arith, low_page va (omega (arith, page, filled.1)), high))

  walks : (reading : EntryReading) (va : ℕ) (access : Access) → ReadsIn (own_frames space) memory reading
      → walk reading (root_of space) folded_shape va access ≡ leaf_end space.part.blocks access (entry_at (va / 4096) space.entries)
  walks reading va access reads = by (cases_lt va (2 ^ guest_bits))
    where
      by : (va < 2 ^ guest_bits) ⊎ (2 ^ guest_bits ≤ va) → walk reading (root_of space) folded_shape va access ≡ leaf_end space.part.blocks access (entry_at (va / 4096) space.entries)
      by (inl low) =
          walk_starts reading (root_of space) folded_shape va access (lt-ltb va (2 ^ guest_bits) low)
          ∙ folds (tables_in space.part space.index) tidy.holds.stands.tree (doubleword_at memory) (leaves space.part.blocks space.entries)
          tidy.holds.stands.sound tidy.holds.stands.says small_frames reading (reads_words (tables_in space.part space.index) memory reading reads) va access (va / 4096) refl (small_page va low)
          (leaf_end space.part.blocks access (entry_at (va / 4096) space.entries)) (leaf_end_of (va / 4096) access)
      by (inr high) =
          walk_refused reading (root_of space) folded_shape va access (le-ltb va (2 ^ guest_bits) high)
          ∙ sym (ap (leaf_end space.part.blocks access) (no_entry va high))

  -- the leaf of an entry
  leaf_has : (page : ℕ) (e : Entry) → entry_at page space.entries ≡ Some e → is_device e ≡ false → (pte_of (leaves space.part.blocks space.entries page) ≡ leaf_parts space.part.blocks e) × (leaves space.part.blocks space.entries page ≢ 0)
  unfolding leaves
  leaf_has page e found off = (
    ap (λ o. pte_of (leaf_word_if space.part.blocks o)) found ∙ ap pte_of (leaf_off space.part.blocks e off)
        ∙ reads_back (leaf_parts space.part.blocks e) (record { frame = frame_small space.part.blocks e tidy.is.small.blocks; reserved = omega arith }),
    λ zero. leaf_some space.part.blocks e off (ap (leaf_word_if space.part.blocks) (sym found) ∙ zero),
  )

  leaf_last : (reading : EntryReading) (va : ℕ) (access : Access) (e : Entry) → ReadsIn (own_frames space) memory reading → entry_at (va / 4096) space.entries ≡ Some e
      → is_device e ≡ false → LastIs (leaf_parts space.part.blocks e) (path reading (root_of space) folded_shape va access)
  unfolding path
  leaf_last reading va access e reads found off =
      let filled = can (va / 4096) e found in
      let page = filled.0.page in
      let low : va < 2 ^ guest_bits = low_page va (omega (arith, page, filled.1)) in
      let has = leaf_has (va / 4096) e found off in
      rw (lt-ltb va (2 ^ guest_bits) low)
      (last_is (tables_in space.part space.index) tidy.holds.stands.tree (doubleword_at memory) (leaves space.part.blocks space.entries)
      tidy.holds.stands.sound tidy.holds.stands.says small_frames reading (reads_words (tables_in space.part space.index) memory reading reads) va access (va / 4096) refl (small_page va low)
      (leaf_parts space.part.blocks e) has.0 has.1)

  insides : (reading : EntryReading) (va : ℕ) (access : Access) → ReadsIn (own_frames space) memory reading
      → LieWithin (own_frames space) (path reading (root_of space) folded_shape va access)
  unfolding path
  insides reading va access reads = by (cases_lt va (2 ^ guest_bits))
    where
      by : (va < 2 ^ guest_bits) ⊎ (2 ^ guest_bits ≤ va) → LieWithin (own_frames space) (path reading (root_of space) folded_shape va access)
      by (inl low) =
          rw (lt-ltb va (2 ^ guest_bits) low)
          (inside_root (tables_in space.part space.index) tidy.holds.stands.tree (doubleword_at memory) (leaves space.part.blocks space.entries)
          tidy.holds.stands.sound tidy.holds.stands.says small_frames reading (reads_words (tables_in space.part space.index) memory reading reads) va access (va / 4096) refl (small_page va low))
      by (inr high) = rw (le-ltb va (2 ^ guest_bits) high) tt

pub folded : TidyIsFolded
folded space memory tidy =
    record { walks = walks space memory (tidy_parts space memory tidy); leaf = leaf_last space memory (tidy_parts space memory tidy); inside = insides space memory (tidy_parts space memory tidy) }

-- the list of a tidy space stands in its tables
pub held_by : (index : ℕ) (table : CachedTable) (space : Shadow) (tables : Tables) (memory : List ℕ) → shadow_of index table ≡ space → tables ≡ tables_in table.part index → Tidy space memory
    → Holds tables table memory
held_by index table space tables memory seen same tidy =
    subst (λ t. Holds t table memory) (sym same) (tidy_parts (shadow_of index table) memory (subst (λ s. Tidy s memory) (sym seen) tidy)).holds

-- so it is tidy with another list in these
module _ (index : ℕ) (old new : CachedTable) (before memory : List ℕ) (tables : Tables) (is : IsShadow (shadow_of index old)) (same : tables ≡ tables_in old.part index)
    (keeps : KeepsTable tables old before new memory) (holds : Holds tables new memory) where
  bounded : (part : Layout) (most : ℕ) → part ≡ old.part → most ≡ old.most → length new.entries ≤ most → All (CanFill part.blocks) new.entries → AllPairs HasOtherPage new.entries
      → IsShadow (record { part = part; index = index; most = most; entries = new.entries; frames = new.frames })
  bounded part most part_is most_is few fill pages =
      subst (λ p. length new.entries ≤ most → All (CanFill p.blocks) new.entries → IsShadow (record { part = p; index = index; most = most; entries = new.entries; frames = new.frames })) (sym part_is)
      (subst (λ m. length new.entries ≤ m → All (CanFill old.part.blocks) new.entries → IsShadow (record { part = old.part; index = index; most = m; entries = new.entries; frames = new.frames })) (sym most_is)
      (λ few' fill'. record { once = is.once; small = is.small; index = is.index; most = is.most; room = is.room; few = few'; fill = fill'; pages = pages }))
      few fill

  pub tidy_kept : Tidy (shadow_of index new) memory
  tidy_kept = tidy_from (shadow_of index new) memory (record { is = bounded new.part new.most keeps.part keeps.most holds.few holds.fill holds.pages; lies = placed.lies; holds = there })
    where
      there : HoldsList (tables_in new.part index) new.part.blocks new.most new.entries new.frames memory
      there = subst (λ t. Holds t new memory) (same ∙ ap (λ p. tables_in p index) (sym keeps.part)) holds

      placed : HasTables (tables_in new.part index) (length memory)
      placed = there.placed

-- zeros are tidy for a new space
pub new_shadow : (part : Layout) (index most : ℕ) (entries : List Entry) (frames : TableFrames) → NamesEachOnce part → HasSmallNumbers part → index < part.spaces → most ≤ most_entries → most ≤ part.entries → entries ≡ []
    → IsShadow (record { part = part; index = index; most = most; entries = entries; frames = frames })
new_shadow part index most entries frames once small own few room none =
    subst (λ es. IsShadow (record { part = part; index = index; most = most; entries = es; frames = frames })) (sym none) (record {
      once = once;
      small = small;
      index = own;
      most = few;
      room = room;
      few = omega arith;
      fill = All-nil (CanFill part.blocks);
      pages = λ i j d before h. absurd (omega (arith, h));
    })

pub tidy_zeros : (part : Layout) (index most : ℕ) (entries : List Entry) (frames : TableFrames) (memory : List ℕ) → NamesEachOnce part → HasSmallNumbers part → index < part.spaces → most ≤ most_entries → most ≤ part.entries
    → entries ≡ [] → IsKept frames (top * most) 0 → LieIn (space_frames part index) (length memory) → AreZeros (space_frames part index) memory
    → Tidy (record { part = part; index = index; most = most; entries = entries; frames = frames }) memory
tidy_zeros part index most entries frames memory once small own few room none kept lies zeros =
    subst (λ es. Tidy (record { part = part; index = index; most = most; entries = es; frames = frames }) memory) (sym none)
    (tidy_from (record { part = part; index = index; most = most; entries = []; frames = frames }) memory (record {
      is = is;
      lies = lies;
      holds = record {
        placed = tables_placed (record { part = part; index = index; most = most; entries = []; frames = frames }) (length memory) is lies;
        count = omega (arith, room);
        bound = few;
        few = omega arith;
        fill = All-nil (CanFill part.blocks);
        pages = λ i j d before h. absurd (omega (arith, h));
        kept = kept;
        stands = zeros_stand (tables_in part index) part.blocks memory frames (tables_apart (record { part = part; index = index; most = most; entries = []; frames = frames }) is) zeros;
      };
    }))
  where
    is : IsShadow (record { part = part; index = index; most = most; entries = []; frames = frames })
    is = new_shadow part index most [] frames once small own few room refl
