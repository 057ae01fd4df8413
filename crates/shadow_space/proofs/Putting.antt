-- An entry is put into the tables.
use Rattle.std.proofs.Common.{◌≡◌, ℕ, ◌+◌, ◌-◌, ◌*◌, ◌/◌, ◌%◌, ◌<◌, ◌≤◌, ◌^◌, ◌⊎◌, inl, inr, List, [], ◌∷◌, ◌++◌, length, get_or, slice_index, slice_set, Some, refl, sym, ap, subst, ◌∙◌, arith, length-append, length-set}
use Rattle.std.specs.List.{All}
use Rattle.std.proofs.lemmas.Bool.{cases_lt}
use Rattle.std.proofs.lemmas.List.{get_or-set_same, get_or-set_other, get_or_append_left, get_or-append_right}
use Rattle.std.proofs.lemmas.List.Elements.{All-append, All-cons, All-nil}
use Rattle.std.proofs.lemmas.List.Quantifiers.{all_pairs_push}
use Rattle.arch_defs.specs.declared.cached.Entry.{Entry}
use Rattle.arch_defs.specs.CachedEntries.{CanFill, HasOtherPage}
use Rattle.arch_defs.specs.Frames.{Only}
use Rattle.arch_defs.proofs.FrameSets.{only_both}
use Rattle.shadow_space.specs.declared.cached.CachedTable.{CachedTable}
use Rattle.shadow_space.specs.declared.frames.TableFrames.{TableFrames}
use Rattle.shadow_space.specs.declared.writing.Tables.{Tables}
use Rattle.shadow_space.specs.Held.{CanPut, Holds, HoldsList, KeepsTable, held_in, number_of}
use Rattle.shadow_space.specs.Leaves.{leaf_word, leaves}
use Rattle.shadow_space.specs.Trees.{HasTables, IsOwn, frames_of, most_tables, slots, top}
use Rattle.guest_settings.specs.Limits.{most_entries}
use Rattle.shadow_space.specs.Ways.{CanFollow, IsUnderWay, UnderWay, number_with}
use Rattle.shadow_space.proofs.Adding.{low_slots}
use Rattle.shadow_space.proofs.Counting.{counted_inside}
use Rattle.shadow_space.proofs.Finding.{leaf_here, leaf_there}
use Rattle.shadow_space.proofs.Leafing.{leaf_says}
use Rattle.shadow_space.proofs.Numbers.{number_push}
use Rattle.shadow_space.proofs.Slots.{own_frame, own_room}
use Rattle.shadow_space.proofs.Stepping.{low_range}
use Rattle.shadow_space.proofs.Tidying.{own_small}
use Rattle.shadow_space.proofs.Ways.{recount, with_all, with_below}
use Rattle.table_words.specs.Words.{doubleword_at, with_word}
use Rattle.table_words.proofs.Words.{only_word, word_here, word_there}

module _ (tables : Tables) (blocks : List ℕ) (most : ℕ) (entries : List Entry) (frames : TableFrames) (memory : List ℕ) (e : Entry)
    (holds : HoldsList tables blocks most entries frames memory) (room : length entries < most) where
  -- before its tables are entered
  pub before : IsUnderWay tables blocks most entries e.page top (top + 1) [] (held_in frames memory)
  before = record {
    levels = omega arith;
    placed = holds.placed;
    kept = record {
      counts = holds.kept.counts;
      frees = holds.kept.frees;
      places = holds.kept.places;
      few = holds.kept.few;
      beyond = holds.kept.beyond;
      below = holds.kept.below;
      zero = holds.kept.zero;
      distinct = holds.kept.distinct;
      all = holds.kept.all;
      sums = omega (arith, holds.kept.sums);
    };
    stands = record {
      tree = holds.stands.tree;
      sound = holds.stands.sound;
      says = holds.stands.says;
      counted = recount tables holds.stands.tree frames.counts (number_of entries) (number_with entries e.page top) (λ h k low. with_below entries e.page top h k low) holds.stands.counted;
      index = holds.stands.index;
    };
    frames = λ h from to. absurd (omega (arith, from, to));
  }

  module _ (can : CanFill blocks e) (others : All (λ x. HasOtherPage x e) entries) (frames2 : TableFrames) (m2 way : List ℕ)
      (second : IsUnderWay tables blocks most entries e.page 0 0 way (held_in frames2 m2)) (low : ℕ) (low_is : low ≡ slice_index way 0) where
    low_place : second.stands.tree.place 0 (e.page / 512) ≡ Some low
    low_place = second.stands.sound.back (slice_index way 0) 0 (e.page / 512) (second.frames 0 (omega arith) (omega arith)) ∙ ap Some (sym low_is)

    low_own : IsOwn tables low
    low_own = second.stands.sound.own low 0 (e.page / 512) low_place

    low_slot : e.page % 512 < slots tables low
    low_slot =
        omega (arith, low_slots tables second.stands.tree low 0 (e.page / 512) second.stands.sound (second.stands.sound.forth low 0 (e.page / 512) low_place) (omega arith))

    pub low_small : low < 2 ^ 44
    low_small = own_small tables low (length m2) second.placed low_own

    pub leaf_room : 8 * (512 * low + e.page % 512) + 8 ≤ length m2
    leaf_room = own_room tables (length m2) low (e.page % 512) second.placed.lies low_own low_slot

    pub low_from : tables.first ≤ low
    low_from = (low_range tables second.stands.tree low 0 (e.page / 512) second.stands.sound low_place (omega arith)).0

    pub low_number : low - tables.first < most_tables
    low_number =
        let counts = second.stands.counted.some 0 (e.page / 512) low (omega arith) low_place in
        omega (arith, counted_inside frames2 (top * most) (top * length entries + (top - 0)) (low - tables.first) second.kept (omega (arith, counts.0, counts.1)), second.kept.few)

    pub place_free : length entries < most_entries
    place_free = omega (arith, room, holds.bound)

    indexed : (j : ℕ) (d : Entry) → j < length (entries ++ e ∷ []) → second.stands.tree.place 0 ((get_or (entries ++ e ∷ []) j d).page / 512) ≡ Some (tables.first + slice_index (slice_set frames2.places (length entries) (low - tables.first)) j)
    indexed j d h = by (cases_lt j (length entries))
      where
        by : (j < length entries) ⊎ (length entries ≤ j) → second.stands.tree.place 0 ((get_or (entries ++ e ∷ []) j d).page / 512) ≡ Some (tables.first + slice_index (slice_set frames2.places (length entries) (low - tables.first)) j)
        by (inl before) =
            ap (λ x. second.stands.tree.place 0 (x.page / 512)) (get_or_append_left entries (e ∷ []) d j before)
            ∙ second.stands.index j d before
            ∙ ap (λ n. Some (tables.first + n)) (sym (get_or-set_other frames2.places (length entries) j (low - tables.first) 0 (λ is. omega (arith, is, before))))
        by (inr last) =
            let is : j ≡ length entries = omega (arith, last, h, length-append entries (e ∷ [])) in
            let none_before : j - length entries ≡ 0 = omega (arith, is) in
            let low_is : tables.first + (low - tables.first) ≡ low = omega (arith, low_from) in
            ap (λ x. second.stands.tree.place 0 (x.page / 512)) (get_or-append_right entries (e ∷ []) (length entries) j d refl last ∙ ap (λ n. get_or (e ∷ []) n d) none_before)
            ∙ low_place
            ∙ ap Some (sym low_is)
            ∙ ap (λ n. Some (tables.first + n)) (sym (ap (slice_index (slice_set frames2.places (length entries) (low - tables.first))) is
            ∙ get_or-set_same frames2.places (length entries) (low - tables.first) 0 (omega (arith, place_free, second.kept.places))))

    leaf_only : (value : ℕ) → Only (frames_of tables) m2 (with_word m2 (512 * low + e.page % 512) value)
    leaf_only value = only_word (frames_of tables) m2 (512 * low + e.page % 512) value leaf_room (own_frame tables low (e.page % 512) low_own low_slot)

    counts : (h k : ℕ) → number_of (entries ++ e ∷ []) h k ≡ number_with entries e.page 0 h k
    counts h k = number_push entries e h k ∙ sym (with_all entries e.page h k)

    pub record HasPut (frames3 : TableFrames) (m3 : List ℕ) : Type 0 where
      pub list : HoldsList tables blocks most (entries ++ e ∷ []) frames3 m3
      pub only : Only (frames_of tables) m2 m3

    put_with : (value : ℕ) → value ≡ leaf_word blocks e → value < 2 ^ 64
        → HasPut (record frames2 { places = slice_set frames2.places (length entries) (low - tables.first) }) (with_word m2 (512 * low + e.page % 512) value)
    put_with value is small = record {
      list = record {
        placed = subst (λ n. HasTables tables n) (sym (leaf_only value).size) second.placed;
        count = holds.count;
        bound = holds.bound;
        few = omega (arith, room, length-append entries (e ∷ []));
        fill = All-append (CanFill blocks) entries (e ∷ []) holds.fill (All-cons (CanFill blocks) e [] can (All-nil (CanFill blocks)));
        pages = all_pairs_push HasOtherPage entries e holds.pages others;
        kept = record {
          counts = second.kept.counts;
          frees = second.kept.frees;
          places = length-set frames2.places (length entries) (low - tables.first) ∙ second.kept.places;
          few = second.kept.few;
          beyond = second.kept.beyond;
          below = second.kept.below;
          zero = second.kept.zero;
          distinct = second.kept.distinct;
          all = second.kept.all;
          sums = omega (arith, second.kept.sums, length-append entries (e ∷ []));
        };
        stands = record {
          tree = second.stands.tree;
          sound = second.stands.sound;
          says = leaf_says tables second.stands.tree (doubleword_at m2) (doubleword_at (with_word m2 (512 * low + e.page % 512) value)) (leaves blocks entries) (leaves blocks (entries ++ e ∷ [])) e.page low
              second.stands.sound second.stands.says low_place (word_here m2 (512 * low + e.page % 512) value leaf_room small ∙ is ∙ sym (leaf_here blocks entries e others))
              (λ j other. word_there m2 (512 * low + e.page % 512) value j leaf_room other)
              (λ p other. leaf_there blocks entries e p other);
          counted = recount tables second.stands.tree frames2.counts (number_with entries e.page 0) (number_of (entries ++ e ∷ [])) (λ h k low. counts h k) second.stands.counted;
          index = indexed;
        };
      };
      only = leaf_only value;
    }

    pub has_put : (frames3 : TableFrames) (m3 : List ℕ) (value : ℕ) → value ≡ leaf_word blocks e → value < 2 ^ 64
        → frames3 ≡ record frames2 { places = slice_set frames2.places (length entries) (low - tables.first) } → m3 ≡ with_word m2 (512 * low + e.page % 512) value → HasPut frames3 m3
    has_put frames3 m3 value is small frames_is m3_is =
        subst (λ m. HasPut frames3 m) (sym m3_is)
        (subst (λ f. HasPut f (with_word m2 (512 * low + e.page % 512) value)) (sym frames_is) (put_with value is small))

-- so of a table as a whole, before its tables are entered and after
pub can_put : (tables : Tables) (old new : CachedTable) (memory m1 : List ℕ) (e : Entry) (left : List Entry) → CanFill old.part.blocks e → new.entries ≡ left → length left < old.most
    → All (λ x. HasOtherPage x e) left → KeepsTable tables old memory new m1 → Holds tables new m1 → CanPut tables new m1 e
can_put tables old new memory m1 e left can entries few others keeps holds = record {
  holds = holds;
  room = subst (λ n. length new.entries < n) (sym keeps.most) (subst (λ es. length es < old.most) (sym entries) few);
  entry = subst (λ part. CanFill part.blocks e) (sym keeps.part) can;
  others = subst (All (λ x. HasOtherPage x e)) (sym entries) others;
}

pub entering : (tables : Tables) (old : CachedTable) (memory : List ℕ) (e : Entry) → CanPut tables old memory e → CanFollow tables old e.page top (top + 1) [] memory
entering tables old memory e can = record {
  page = can.entry.page;
  room = record { count = can.holds.count; bound = can.holds.bound; room = can.room };
  stands = before tables old.part.blocks old.most old.entries old.frames memory e can.holds can.room;
}

module _ (tables : Tables) (old : CachedTable) (memory : List ℕ) (e : Entry) (holds : Holds tables old memory) (room : length old.entries < old.most) (can : CanFill old.part.blocks e)
    (others : All (λ x. HasOtherPage x e) old.entries) (between : CachedTable) (m1 way : List ℕ) (rest : between ≡ record old { frames = between.frames })
    (stands : UnderWay tables between e.page 0 0 way m1) (only : Only (frames_of tables) memory m1) where
  under : IsUnderWay tables old.part.blocks old.most old.entries e.page 0 0 way (held_in between.frames m1)
  under = subst (λ t. IsUnderWay tables t.part.blocks t.most t.entries e.page 0 0 way (held_in between.frames m1)) rest stands

  -- the frame of the leaf
  pub record HasLow (slot : ℕ) : Type 0 where
    pub small : slice_index way 0 < 2 ^ 44
    pub entry : slot < 512
    pub fits : 8 * (512 * slice_index way 0 + slot) + 8 ≤ length m1
    pub from : tables.first ≤ slice_index way 0
    pub number : slice_index way 0 - tables.first < most_tables

  pub has_low : (slot : ℕ) → slot ≡ e.page % 512 → HasLow slot
  has_low slot is = record {
    small = low_small tables old.part.blocks old.most old.entries old.frames memory e holds room can others between.frames m1 way under (slice_index way 0) refl;
    entry = omega (arith, is);
    fits = subst (λ n. 8 * (512 * slice_index way 0 + n) + 8 ≤ length m1) (sym is)
        (leaf_room tables old.part.blocks old.most old.entries old.frames memory e holds room can others between.frames m1 way under (slice_index way 0) refl);
    from = low_from tables old.part.blocks old.most old.entries old.frames memory e holds room can others between.frames m1 way under (slice_index way 0) refl;
    number = low_number tables old.part.blocks old.most old.entries old.frames memory e holds room can others between.frames m1 way under (slice_index way 0) refl;
  }

  pub record HasPutInto (new : CachedTable) (m2 : List ℕ) : Type 0 where
    pub list : Holds tables new m2
    pub keeps : KeepsTable tables old memory new m2

  pub has_put_into : (entries2 : List Entry) (frames2 : TableFrames) (m2 : List ℕ) (slot value count : ℕ) → slot ≡ e.page % 512 → value ≡ leaf_word old.part.blocks e → value < 2 ^ 64 → count ≡ length between.entries
      → frames2 ≡ record between.frames { places = slice_set between.frames.places count (slice_index way 0 - tables.first) } → m2 ≡ with_word m1 (512 * slice_index way 0 + slot) value
      → entries2 ≡ between.entries ++ e ∷ [] → HasPutInto (record between { entries = entries2; frames = frames2 }) m2
  has_put_into entries2 frames2 m2 slot value count slot_is value_is small count_is frames_is m2_is entries_is = record {
    list = subst (λ es. HoldsList tables between.part.blocks between.most es frames2 m2) (sym entries_is)
        (subst (λ t. HoldsList tables t.part.blocks t.most (t.entries ++ e ∷ []) frames2 m2) (sym rest) put.list);
    keeps = record {
      part = ap (λ t. t.part) rest;
      most = ap (λ t. t.most) rest;
      only = only_both (frames_of tables) memory m1 m2 only put.only;
    };
  }
    where
      number_is : count ≡ length old.entries
      number_is = count_is ∙ ap (λ t. length t.entries) rest

      put : HasPut tables old.part.blocks old.most old.entries old.frames memory e holds room can others between.frames m1 way under (slice_index way 0) refl frames2 m2
      put =
          has_put tables old.part.blocks old.most old.entries old.frames memory e holds room can others between.frames m1 way under (slice_index way 0) refl frames2 m2 value value_is small
          (frames_is ∙ ap {A = ℕ} {B = TableFrames} (λ n. record between.frames { places = slice_set between.frames.places n (slice_index way 0 - tables.first) }) number_is)
          (m2_is ∙ ap (λ n. with_word m1 (512 * slice_index way 0 + n) value) slot_is)
