-- One level of a page's way, down or up.
use Rattle.std.proofs.Common.{◌≡◌, ◌≢◌, ℕ, suc, ◌+◌, ◌-◌, ◌*◌, ◌<◌, ◌≤◌, ◌^◌, List, [], length, replicate, slice_index, slice_set, Option, Some, None, refl, sym, ap, subst, ◌∙◌, arith, length-set}
use Rattle.std.proofs.lemmas.List.{length-replicate}
use Rattle.arch_defs.specs.declared.cached.Entry.{Entry}
use Rattle.arch_defs.specs.CachedEntries.{guest_page_bits}
use Rattle.arch_defs.specs.Frames.{Only}
use Rattle.arch_defs.proofs.FrameSets.{only_both, only_none}
use Rattle.shadow_space.specs.declared.cached.CachedTable.{CachedTable}
use Rattle.shadow_space.specs.declared.frames.TableFrames.{TableFrames}
use Rattle.shadow_space.specs.declared.writing.Tables.{Tables}
use Rattle.shadow_space.specs.Held.{HasFree, Held, IsCounting, IsKept, departed, entered_frame, held_in, table_entered}
use Rattle.shadow_space.specs.Leaves.{leaves}
use Rattle.shadow_space.specs.Trees.{HasTables, IsOwn, Table, frames_of, most_tables, pointer_of, prefix, slots, top}
use Rattle.shadow_space.specs.Ways.{HasRoom, IsUnderWay, UnderWay, number_with, slot_of, table_prefix}
use Rattle.shadow_space.proofs.Counting.{left_fewer}
use Rattle.shadow_space.proofs.Departing.{HasDeparted, departs}
use Rattle.shadow_space.proofs.Prefixes.{low_prefix, slot_small, slot_whole}
use Rattle.shadow_space.proofs.Slots.{own_room}
use Rattle.shadow_space.proofs.Stepping.{HasEntered, can_open, entry_is, enters, frame_counts, some_counts}
use Rattle.shadow_space.proofs.Tidying.{own_small}
use Rattle.shadow_space.proofs.Ways.{no_entries, one_level, own_counted, page_counted, tree_own, tree_slot, way_set, with_below}
use Rattle.table_words.specs.Entries.{named_frame}
use Rattle.table_words.specs.Words.{changed, doubleword_at}
use Rattle.table_words.proofs.Pointers.{pointer_names}
use Rattle.table_words.proofs.Words.{changed_none, changed_then}

-- the doubleword of an entry of a frame lies in memory, and its number is small
pub record HasWord (size frame slot : ℕ) : Type 0 where
  pub fits : 8 * (512 * frame + slot) + 8 ≤ size
  pub small : frame < 2 ^ 44
  pub entry : slot < 2048

-- what stands when a table has been passed
pub record HasPassed (tables : Tables) (blocks : List ℕ) (most : ℕ) (entries : List Entry) (page : ℕ) (old : Held) (way : List ℕ) (from : ℕ) (new : Held) : Type 0 where
  pub stands : IsUnderWay tables blocks most entries page from from way new
  pub only : Only (frames_of tables) old.memory new.memory

module _ (tables : Tables) (blocks : List ℕ) (most : ℕ) (entries : List Entry) (page : ℕ) (room : HasRoom tables most entries) (small : page < 2 ^ guest_page_bits) where
  few_words : (from : ℕ) → top * length entries + (top - from) < 65535
  few_words from = omega (arith, room.room, room.bound)

  module _ (from known : ℕ) (way : List ℕ) (held : Held) (u : IsUnderWay tables blocks most entries page from known way held) where
    frame_slot : (h : ℕ) → known ≤ h → h ≤ top → slot_of h page < slots tables (slice_index way h)
    frame_slot h from' to = tree_slot tables u.stands.tree (slice_index way h) h page u.stands.sound (u.frames h from' to) to small

    frame_own : (h : ℕ) → known ≤ h → h ≤ top → IsOwn tables (slice_index way h)
    frame_own h from' to = tree_own tables u.stands.tree (slice_index way h) h (table_prefix h page) u.stands.sound (u.frames h from' to)

    pub has_word : (h : ℕ) → known ≤ h → h ≤ top → HasWord (length held.memory) (slice_index way h) (slot_of h page)
    has_word h from' to = record {
      fits = own_room tables (length held.memory) (slice_index way h) (slot_of h page) u.placed.lies (frame_own h from' to) (frame_slot h from' to);
      small = own_small tables (slice_index way h) (length held.memory) u.placed (frame_own h from' to);
      entry = slot_small h page small;
    }

    module _ (h : ℕ) (low : h < top) (above : known ≤ suc h) where
      word_is : doubleword_at held.memory (512 * slice_index way (suc h) + slot_of (suc h) page) ≡ pointer_of (u.stands.tree.place h (prefix h page))
      word_is =
          entry_is tables (number_with entries page from) (leaves blocks entries) entries held (top * most) (top * length entries + (top - from)) h (prefix h page) (table_prefix (suc h) page) (slot_of (suc h) page)
          (slice_index way (suc h)) u.placed room.count u.kept u.stands low (u.frames (suc h) above low) (frame_slot (suc h) above low) (slot_whole h page low)

      -- where the page is counted it has a table, which the pointer names
      named : from ≤ h → (o : Option ℕ) → u.stands.tree.place h (prefix h page) ≡ o → u.stands.tree.place h (prefix h page) ≡ Some (named_frame (doubleword_at held.memory (512 * slice_index way (suc h) + slot_of (suc h) page)))
      named counted None is = let none = u.stands.counted.none h (prefix h page) low is in absurd (omega (arith, none, page_counted entries page from h counted))
      named counted (Some f) is =
          is ∙ ap Some (sym (ap named_frame (word_is ∙ ap pointer_of is) ∙ pointer_names f (own_small tables f (length held.memory) u.placed (u.stands.sound.own f h (prefix h page) is))))

      pub below_is : from ≤ h → u.stands.tree.content (named_frame (doubleword_at held.memory (512 * slice_index way (suc h) + slot_of (suc h) page))) ≡ Table h (table_prefix h page)
      below_is counted =
          u.stands.sound.forth _ h (prefix h page) (named counted (u.stands.tree.place h (prefix h page)) refl)
          ∙ ap (Table h) (sym (low_prefix h page low))

  -- a table entered
  module _ (h : ℕ) (way : List ℕ) (held : Held) (u : IsUnderWay tables blocks most entries page (suc h) (suc h) way held) (low : h < top) where
    pub can_enter : doubleword_at held.memory (512 * slice_index way (suc h) + slot_of (suc h) page) ≢ 0
        → IsCounting held.frames tables.first (named_frame (doubleword_at held.memory (512 * slice_index way (suc h) + slot_of (suc h) page)))
    can_enter =
        some_counts tables (number_with entries page (suc h)) (leaves blocks entries) entries held (top * most) (top * length entries + (top - suc h)) h (prefix h page) (table_prefix (suc h) page) (slot_of (suc h) page)
        (slice_index way (suc h)) u.placed room.count u.kept u.stands low (u.frames (suc h) (omega arith) low) (frame_slot (suc h) (suc h) way held u (suc h) (omega arith) low) (slot_whole h page low) (few_words (suc h))

    fewer : top * length entries + (top - suc h) < top * most
    fewer = omega (arith, room.room, low)

    pub is_free : HasFree held.frames tables.first
    is_free =
        can_open tables (number_with entries page (suc h)) (leaves blocks entries) entries held (top * most) (top * length entries + (top - suc h)) h (prefix h page) (table_prefix (suc h) page) (slot_of (suc h) page)
        (slice_index way (suc h)) u.placed room.count u.kept u.stands low (u.frames (suc h) (omega arith) low) (frame_slot (suc h) (suc h) way held u (suc h) (omega arith) low) (slot_whole h page low) fewer

    entered : HasEntered tables (number_with entries page (suc h)) (number_with entries page h) (leaves blocks entries) entries held
        (table_entered tables.first (512 * slice_index way (suc h) + slot_of (suc h) page) held) u.stands (top * most) (top * length entries + (top - suc h)) h (prefix h page)
        (entered_frame tables.first (512 * slice_index way (suc h) + slot_of (suc h) page) held)
    entered =
        enters tables (number_with entries page (suc h)) (leaves blocks entries) entries held (top * most) (top * length entries + (top - suc h)) h (prefix h page) (table_prefix (suc h) page) (slot_of (suc h) page)
        (slice_index way (suc h)) u.placed room.count u.kept u.stands low (u.frames (suc h) (omega arith) low) (frame_slot (suc h) (suc h) way held u (suc h) (omega arith) low) (slot_whole h page low)
        (number_with entries page h) (one_level entries page h) fewer

    enters_one : length way ≡ top + 1 → HasPassed tables blocks most entries page held (slice_set way h (entered_frame tables.first (512 * slice_index way (suc h) + slot_of (suc h) page) held)) h
        (table_entered tables.first (512 * slice_index way (suc h) + slot_of (suc h) page) held)
    enters_one size = record {
      stands = record {
        levels = omega (arith, low);
        placed = subst (λ n. HasTables tables n) (sym entered.only.size) u.placed;
        kept = subst (λ n. IsKept (table_entered tables.first (512 * slice_index way (suc h) + slot_of (suc h) page) held).frames (top * most) n) one_more entered.kept;
        stands = entered.stands;
        frames = way_set entered.stands.tree.content page h way (entered_frame tables.first (512 * slice_index way (suc h) + slot_of (suc h) page) held) (omega (arith, size, low))
            (entered.stands.sound.forth _ h (prefix h page) entered.place ∙ ap (Table h) (sym (low_prefix h page low)))
            (λ h' from to. entered.stands.sound.forth _ h' (table_prefix h' page)
            (entered.places h' (table_prefix h' page) (slice_index way h') (λ e. omega (arith, e, from))
            (u.stands.sound.back (slice_index way h') h' (table_prefix h' page) (u.frames h' from to))));
      };
      only = entered.only;
    }
      where
        one_more : top * length entries + (top - suc h) + 1 ≡ top * length entries + (top - h)
        one_more = omega (arith, low)

    pub has_entered : (i frame : ℕ) (new : Held) → length way ≡ top + 1 → i ≡ 512 * slice_index way (suc h) + slot_of (suc h) page → new ≡ table_entered tables.first i held
        → frame ≡ entered_frame tables.first i held → HasPassed tables blocks most entries page held (slice_set way h frame) h new
    has_entered i frame new size i_is new_is frame_is =
        subst (λ f. HasPassed tables blocks most entries page held (slice_set way h f) h new) (sym (frame_is ∙ ap (λ n. entered_frame tables.first n held) i_is))
        (subst (λ x. HasPassed tables blocks most entries page held (slice_set way h (entered_frame tables.first (512 * slice_index way (suc h) + slot_of (suc h) page) held)) h x)
        (sym (new_is ∙ ap (λ n. table_entered tables.first n held) i_is)) (enters_one size))

  -- a table left
  module _ (h : ℕ) (way : List ℕ) (held : Held) (u : IsUnderWay tables blocks most entries page h h way held) (low : h < top) where
    here : u.stands.tree.place h (prefix h page) ≡ Some (slice_index way h)
    here = u.stands.sound.back (slice_index way h) h (prefix h page) (u.frames h (omega arith) (omega (arith, low)) ∙ ap (Table h) (low_prefix h page low))

    pub counts_here : IsCounting held.frames tables.first (slice_index way h)
    counts_here =
        frame_counts tables (number_with entries page h) (leaves blocks entries) entries held (top * most) (top * length entries + (top - h)) h (prefix h page) (table_prefix (suc h) page) (slot_of (suc h) page)
        (slice_index way (suc h)) u.placed room.count u.kept u.stands low (u.frames (suc h) (omega arith) low) (frame_slot h h way held u (suc h) (omega arith) low) (slot_whole h page low)
        (slice_index way h) here (few_words h)

    pub some_here : 0 < slice_index held.frames.counts (slice_index way h - tables.first)
    some_here =
        let counts = u.stands.counted.some h (prefix h page) (slice_index way h) low here in
        omega (arith, counts.0, counts.1)

    pub room_left : held.frames.left < most_tables
    room_left =
        omega (arith, left_fewer held.frames (top * most) (top * length entries + (top - h)) (slice_index way h - tables.first) u.kept some_here, u.kept.few)

    left : HasDeparted tables (number_with entries page h) (number_with entries page (suc h)) (leaves blocks entries) entries held
        (departed tables.first (512 * slice_index way (suc h) + slot_of (suc h) page) (slice_index way h) held) u.stands (top * most) (top * length entries + (top - h)) h
    left =
        departs tables (number_with entries page h) (number_with entries page (suc h)) (leaves blocks entries) entries held (top * most) (top * length entries + (top - h)) h (prefix h page) (table_prefix (suc h) page)
        (slot_of (suc h) page) (slice_index way (suc h)) (slice_index way h) u.placed room.count u.kept u.stands low (u.frames (suc h) (omega arith) low) (frame_slot h h way held u (suc h) (omega arith) low)
        (slot_whole h page low) here (one_level entries page h) (omega (arith, low))
        (λ none. no_entries tables blocks entries page h held u.stands h (prefix h page) low (omega arith) (sym (with_below entries page (suc h) h (prefix h page) (omega arith)) ∙ none))
        (λ i e inside. own_counted entries page (suc h) i e inside)

    leaves_one : HasPassed tables blocks most entries page held way (suc h) (departed tables.first (512 * slice_index way (suc h) + slot_of (suc h) page) (slice_index way h) held)
    leaves_one = record {
      stands = record {
        levels = low;
        placed = subst (λ n. HasTables tables n) (sym left.only.size) u.placed;
        kept = subst (λ n. IsKept (departed tables.first (512 * slice_index way (suc h) + slot_of (suc h) page) (slice_index way h) held).frames (top * most) n) one_less left.kept;
        stands = left.stands;
        frames = λ h' from to. left.stands.sound.forth _ h' (table_prefix h' page)
            (left.places h' (table_prefix h' page) (slice_index way h') (λ e. omega (arith, e, from))
            (u.stands.sound.back (slice_index way h') h' (table_prefix h' page) (u.frames h' (omega (arith, from)) to)));
      };
      only = left.only;
    }
      where
        one_less : top * length entries + (top - h) - 1 ≡ top * length entries + (top - suc h)
        one_less = omega (arith, low)

    pub has_left : (i : ℕ) (new : Held) → i ≡ 512 * slice_index way (suc h) + slot_of (suc h) page → new ≡ departed tables.first i (slice_index way h) held
        → HasPassed tables blocks most entries page held way (suc h) new
    has_left i new i_is new_is =
        subst (λ x. HasPassed tables blocks most entries page held way (suc h) x) (sym (new_is ∙ ap (λ n. departed tables.first n (slice_index way h) held) i_is)) leaves_one

-- the root is the first frame of a way
pub from_root : (tables : Tables) (table : CachedTable) (page from : ℕ) (memory : List ℕ) → UnderWay tables table page from (top + 1) [] memory
    → UnderWay tables table page from top (replicate (top + 1) tables.root) memory
from_root tables table page from memory u =
    record { levels = u.levels; placed = u.placed; kept = u.kept; stands = u.stands; frames = λ h above to. at_root h (omega (arith, above, to)) }
  where
    at_root : (h : ℕ) → h ≡ top → u.stands.tree.content (slice_index (replicate (top + 1) tables.root) h) ≡ Table h (table_prefix h page)
    at_root h is = subst (λ n. u.stands.tree.content (slice_index (replicate (top + 1) tables.root) n) ≡ Table n (table_prefix n page)) (sym is) u.stands.sound.root

-- the doubleword of an entry of a level, one above another
next_word : (way : List ℕ) (page level h slot : ℕ) → level ≡ suc h → slot ≡ slot_of level page → 512 * slice_index way level + slot ≡ 512 * slice_index way (suc h) + slot_of (suc h) page
next_word way page level h slot is slot_is = ap (λ n. 512 * slice_index way level + n) slot_is ∙ ap (λ n. 512 * slice_index way n + slot_of n page) is

-- the frames of a page's tables found from a level up
pub record IsFollowing (tables : Tables) (table : CachedTable) (memory : List ℕ) (page level : ℕ) (way : List ℕ) : Type 0 where
  pub size : length way ≡ top + 1
  pub low : level ≤ top
  pub stands : UnderWay tables table page 0 level way memory

module _ (tables : Tables) (table : CachedTable) (memory : List ℕ) (page : ℕ) (room : HasRoom tables table.most table.entries) (small : page < 2 ^ guest_page_bits) where
  pub follows_first : UnderWay tables table page 0 (top + 1) [] memory → IsFollowing tables table memory page top (replicate (top + 1) tables.root)
  follows_first u = record { size = length-replicate (top + 1) tables.root; low = omega arith; stands = from_root tables table page 0 memory u }

  pub follows_word : (level slot : ℕ) (way : List ℕ) → IsFollowing tables table memory page level way → slot ≡ slot_of level page → HasWord (length memory) (slice_index way level) slot
  follows_word level slot way f is =
      subst (λ n. HasWord (length memory) (slice_index way level) n) (sym is)
      (has_word tables table.part.blocks table.most table.entries page room small 0 level way (held_in table.frames memory) f.stands level (omega arith) f.low)

  pub follows_next : (level h slot frame : ℕ) (way : List ℕ) → IsFollowing tables table memory page level way → level ≡ suc h → slot ≡ slot_of level page
      → frame ≡ named_frame (doubleword_at memory (512 * slice_index way level + slot)) → IsFollowing tables table memory page h (slice_set way h frame)
  follows_next level h slot frame way f is slot_is frame_is = record {
    size = length-set way h frame ∙ f.size;
    low = omega (arith, f.low, is);
    stands = record {
      levels = f.stands.levels;
      placed = f.stands.placed;
      kept = f.stands.kept;
      stands = f.stands.stands;
      frames = way_set f.stands.stands.tree.content page h way frame (omega (arith, f.size, is, f.low))
          (ap f.stands.stands.tree.content (frame_is ∙ ap (λ n. named_frame (doubleword_at memory n)) (next_word way page level h slot is slot_is))
          ∙ below_is tables table.part.blocks table.most table.entries page room small 0 level way (held_in table.frames memory) f.stands h (omega (arith, f.low, is)) (omega (arith, is)) (omega arith))
          (λ h' from to. f.stands.frames h' (omega (arith, from, is)) to);
    };
  }

-- the tables of a page entered from the root down to a level, and left from the lowest one up to a level
pub record IsPassing (tables : Tables) (old : CachedTable) (memory : List ℕ) (page : ℕ) (new : CachedTable) (memory' : List ℕ) (level : ℕ) (way : List ℕ) (most : ℕ) : Type 0 where
  pub size : length way ≡ top + 1
  pub rest : new ≡ record old { frames = new.frames }
  pub stands : IsUnderWay tables old.part.blocks old.most old.entries page level level way (held_in new.frames memory')
  pub only : Only (frames_of tables) memory memory'
  pub changes : changed memory memory' ≤ most

module _ (tables : Tables) (old : CachedTable) (memory : List ℕ) (page : ℕ) (room : HasRoom tables old.most old.entries) (small : page < 2 ^ guest_page_bits) where
  pub enters_first : UnderWay tables old page top (top + 1) [] memory → IsPassing tables old memory page old memory top (replicate (top + 1) tables.root) 0
  enters_first u = record {
    size = length-replicate (top + 1) tables.root;
    rest = refl;
    stands = from_root tables old page top memory u;
    only = only_none (frames_of tables) memory;
    changes = omega (arith, changed_none memory);
  }

  pub leaves_first : (way : List ℕ) → length way ≡ top + 1 → UnderWay tables old page 0 0 way memory → IsPassing tables old memory page old memory 0 way 0
  leaves_first way size u = record { size = size; rest = refl; stands = u; only = only_none (frames_of tables) memory; changes = omega (arith, changed_none memory) }

  module _ (new : CachedTable) (memory' : List ℕ) (level most : ℕ) (way : List ℕ) (p : IsPassing tables old memory page new memory' level way most) where
    -- what the entry of a level is
    pub passes_word : (h slot : ℕ) → level ≤ h → h ≤ top → slot ≡ slot_of h page → HasWord (length memory') (slice_index way h) slot
    passes_word h slot from to is =
        subst (λ n. HasWord (length memory') (slice_index way h) n) (sym is)
        (has_word tables old.part.blocks old.most old.entries page room small level level way (held_in new.frames memory') p.stands h from to)

    above : (h : ℕ) → level ≡ suc h → IsUnderWay tables old.part.blocks old.most old.entries page (suc h) (suc h) way (held_in new.frames memory')
    above h is = subst (λ n. IsUnderWay tables old.part.blocks old.most old.entries page n n way (held_in new.frames memory')) is p.stands

    lower : (h : ℕ) → level ≡ suc h → h < top
    lower h is = omega (arith, p.stands.levels, is)

    pub passes_some : (h slot : ℕ) → level ≡ suc h → slot ≡ slot_of level page → doubleword_at memory' (512 * slice_index way level + slot) ≢ 0
        → IsCounting new.frames tables.first (named_frame (doubleword_at memory' (512 * slice_index way level + slot)))
    passes_some h slot is slot_is =
        subst (λ i. doubleword_at memory' i ≢ 0 → IsCounting new.frames tables.first (named_frame (doubleword_at memory' i))) (sym (next_word way page level h slot is slot_is))
        (can_enter tables old.part.blocks old.most old.entries page room small h way (held_in new.frames memory') (above h is) (lower h is))

    pub passes_none : (h : ℕ) → level ≡ suc h → HasFree new.frames tables.first
    passes_none h is = is_free tables old.part.blocks old.most old.entries page room small h way (held_in new.frames memory') (above h is) (lower h is)

    passed : (frames2 : TableFrames) (m2 way' : List ℕ) (from most' : ℕ) → HasPassed tables old.part.blocks old.most old.entries page (held_in new.frames memory') way' from (held_in frames2 m2) → length way' ≡ top + 1
        → changed memory' m2 ≤ 1 → most + 1 ≤ most' → IsPassing tables old memory page (record new { frames = frames2 }) m2 from way' most'
    passed frames2 m2 way' from most' has size few more = record {
      size = size;
      rest = ap {A = CachedTable} {B = CachedTable} (λ t. record t { frames = frames2 }) p.rest;
      stands = has.stands;
      only = only_both (frames_of tables) memory memory' m2 p.only has.only;
      changes = omega (arith, changed_then memory memory' m2 p.only.size, p.changes, few, more);
    }

    pub enters_next : (h slot frame most' : ℕ) (frames2 : TableFrames) (m2 : List ℕ) → level ≡ suc h → slot ≡ slot_of level page
        → held_in frames2 m2 ≡ table_entered tables.first (512 * slice_index way level + slot) (held_in new.frames memory')
        → frame ≡ entered_frame tables.first (512 * slice_index way level + slot) (held_in new.frames memory') → changed memory' m2 ≤ 1 → most + 1 ≤ most'
        → IsPassing tables old memory page (record new { frames = frames2 }) m2 h (slice_set way h frame) most'
    enters_next h slot frame most' frames2 m2 is slot_is held_is frame_is few more =
        passed frames2 m2 (slice_set way h frame) h most'
        (has_entered tables old.part.blocks old.most old.entries page room small h way (held_in new.frames memory') (above h is) (lower h is) (512 * slice_index way level + slot) frame (held_in frames2 m2)
        p.size (next_word way page level h slot is slot_is) held_is frame_is)
        (length-set way h frame ∙ p.size) few more

    module _ (low : level < top) where
      pub passes_counts : IsCounting new.frames tables.first (slice_index way level)
      passes_counts = counts_here tables old.part.blocks old.most old.entries page room small level way (held_in new.frames memory') p.stands low

      pub passes_count : 0 < slice_index new.frames.counts (slice_index way level - tables.first)
      passes_count = some_here tables old.part.blocks old.most old.entries page room small level way (held_in new.frames memory') p.stands low

      pub passes_room : new.frames.left < most_tables
      passes_room = room_left tables old.part.blocks old.most old.entries page room small level way (held_in new.frames memory') p.stands low

      pub leaves_next : (h slot : ℕ) (frames2 : TableFrames) (m2 : List ℕ) → h ≡ suc level → slot ≡ slot_of h page
          → held_in frames2 m2 ≡ departed tables.first (512 * slice_index way h + slot) (slice_index way level) (held_in new.frames memory') → changed memory' m2 ≤ 1
          → IsPassing tables old memory page (record new { frames = frames2 }) m2 h way (most + 1)
      leaves_next h slot frames2 m2 is slot_is held_is few =
          subst (λ n. IsPassing tables old memory page (record new { frames = frames2 }) m2 n way (most + 1)) (sym is)
          (passed frames2 m2 way (suc level) (most + 1)
          (has_left tables old.part.blocks old.most old.entries page room small level way (held_in new.frames memory') p.stands low (512 * slice_index way h + slot) (held_in frames2 m2)
          (next_word way page h level slot is slot_is) held_is)
          p.size few (omega arith))

    -- at the end
    pub passed_all : (end : ℕ) → level ≡ end → UnderWay tables new page end end way memory'
    passed_all end is =
        subst (λ n. UnderWay tables new page n n way memory') is
        (subst (λ t. IsUnderWay tables t.part.blocks t.most t.entries page level level way (held_in new.frames memory')) (sym p.rest) p.stands)
