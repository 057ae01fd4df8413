-- An entry is taken out of the tables.
use Rattle.std.proofs.Common.{◌≡◌, ℕ, ◌+◌, ◌-◌, ◌*◌, ◌/◌, ◌%◌, ◌<◌, ◌≤◌, ◌^◌, ◌⊎◌, inl, inr, cond, ◌==◌, List, [], length, get_or, remove, slice_index, Some, sym, ap, subst, ◌∙◌, arith}
use Rattle.std.proofs.lemmas.Bool.{cases_lt}
use Rattle.std.proofs.lemmas.List.Edits.{get_or-remove_above, get_or-remove_below, length-remove}
use Rattle.std.proofs.lemmas.List.Quantifiers.{all_pairs_remove}
use Rattle.arch_defs.specs.declared.cached.Entry.{Entry}
use Rattle.arch_defs.specs.CachedEntries.{CanFill, HasOtherPage, guest_page_bits}
use Rattle.arch_defs.specs.Frames.{Only}
use Rattle.arch_defs.proofs.FrameSets.{only_both}
use Rattle.shadow_space.specs.declared.cached.CachedTable.{CachedTable}
use Rattle.shadow_space.specs.declared.frames.TableFrames.{TableFrames}
use Rattle.shadow_space.specs.declared.writing.Tables.{Tables}
use Rattle.shadow_space.specs.Held.{HasMovedUp, Holds, HoldsList, IsKept, KeepsTable, held_in, number_of}
use Rattle.shadow_space.specs.Leaves.{leaves}
use Rattle.shadow_space.specs.Trees.{HasTables, IsOwn, frames_of, prefix, slots, top}
use Rattle.shadow_space.specs.Ways.{HasRoom, IsUnderWay, UnderWay, number_with}
use Rattle.shadow_space.proofs.Adding.{low_slots}
use Rattle.shadow_space.proofs.Editing.{all_removed, leaf_gone, leaf_other}
use Rattle.shadow_space.proofs.Leafing.{leaf_says}
use Rattle.shadow_space.proofs.Numbers.{number_remove}
use Rattle.shadow_space.proofs.Slots.{own_frame, own_room}
use Rattle.shadow_space.proofs.Tidying.{own_small}
use Rattle.shadow_space.proofs.Ways.{recount, with_all, with_below}
use Rattle.table_words.specs.Words.{doubleword_at, with_word}
use Rattle.table_words.proofs.Words.{only_word, word_here, word_there}

module _ (tables : Tables) (blocks : List ℕ) (most : ℕ) (entries : List Entry) (frames : TableFrames) (memory : List ℕ) (i : ℕ) (d : Entry)
    (holds : HoldsList tables blocks most entries frames memory) (inside : i < length entries) (page place : ℕ) (page_is : page ≡ (get_or entries i d).page) (place_is : place ≡ slice_index frames.places i) where
  place_low : holds.stands.tree.place 0 (page / 512) ≡ Some (tables.first + place)
  place_low = ap (λ n. holds.stands.tree.place 0 (n / 512)) page_is ∙ holds.stands.index i d inside ∙ ap (λ n. Some (tables.first + n)) (sym place_is)

  own_low : IsOwn tables (tables.first + place)
  own_low = holds.stands.sound.own (tables.first + place) 0 (page / 512) place_low

  slot_low : page % 512 < slots tables (tables.first + place)
  slot_low =
      omega (
        arith,
        low_slots tables holds.stands.tree (tables.first + place) 0 (page / 512) holds.stands.sound
            (holds.stands.sound.forth (tables.first + place) 0 (page / 512) place_low) (omega arith),
      )

  -- the leaf is in memory
  pub leaf_room : 8 * (512 * (tables.first + place) + page % 512) + 8 ≤ length memory
  leaf_room = own_room tables (length memory) (tables.first + place) (page % 512) holds.placed.lies own_low slot_low

  pub low_small : tables.first + place < 2 ^ 44
  low_small = own_small tables (tables.first + place) (length memory) holds.placed own_low

  shorter : length (remove entries i) + 1 ≡ length entries
  shorter = length-remove entries i inside

  -- without the leaf, and with the places of the others
  pub record HasLeft (frames1 : TableFrames) (m1 : List ℕ) : Type 0 where
    pub stands : IsUnderWay tables blocks most (remove entries i) page 0 (top + 1) [] (held_in frames1 m1)
    pub only : Only (frames_of tables) memory m1

  moved : (places : List ℕ) → HasMovedUp frames.places places i (length entries) → (k : ℕ) (e : Entry) → k < length (remove entries i)
      → holds.stands.tree.place 0 ((get_or (remove entries i) k e).page / 512) ≡ Some (tables.first + slice_index places k)
  moved places up k e h = by (cases_lt k i)
    where
      by : (k < i) ⊎ (i ≤ k) → holds.stands.tree.place 0 ((get_or (remove entries i) k e).page / 512) ≡ Some (tables.first + slice_index places k)
      by (inl before) =
          ap (λ x. holds.stands.tree.place 0 (x.page / 512)) (get_or-remove_below entries i e k before inside)
          ∙ holds.stands.index k e (omega (arith, before, inside))
          ∙ ap (λ n. Some (tables.first + n)) (sym (up.before k before))
      by (inr behind) =
          ap (λ x. holds.stands.tree.place 0 (x.page / 512)) (get_or-remove_above entries i e k behind inside)
          ∙ holds.stands.index (k + 1) e (omega (arith, shorter, h))
          ∙ ap (λ n. Some (tables.first + n)) (sym (up.behind k behind (omega (arith, shorter, h))))

  counts : (h k : ℕ) → number_with (remove entries i) page 0 h k ≡ number_of entries h k
  counts h k =
      with_all (remove entries i) page h k
      ∙ sym (number_remove entries i d h k inside ∙ ap (λ n. number_of (remove entries i) h k + cond (prefix h n == k) 1 0) (sym page_is))

  left_with : (places : List ℕ) → HasMovedUp frames.places places i (length entries)
      → HasLeft (record frames { places = places }) (with_word memory (512 * (tables.first + place) + page % 512) 0)
  left_with places up = record {
    stands = record {
      levels = omega arith;
      placed = subst (λ n. HasTables tables n) (sym only.size) holds.placed;
      kept = record {
        counts = holds.kept.counts;
        frees = holds.kept.frees;
        places = up.size ∙ holds.kept.places;
        few = holds.kept.few;
        beyond = holds.kept.beyond;
        below = holds.kept.below;
        zero = holds.kept.zero;
        distinct = holds.kept.distinct;
        all = holds.kept.all;
        sums = omega (arith, holds.kept.sums, shorter);
      };
      stands = record {
        tree = holds.stands.tree;
        sound = holds.stands.sound;
        says = leaf_says tables holds.stands.tree (doubleword_at memory) (doubleword_at (with_word memory (512 * (tables.first + place) + page % 512) 0))
            (leaves blocks entries) (leaves blocks (remove entries i)) page (tables.first + place) holds.stands.sound holds.stands.says place_low
            (word_here memory (512 * (tables.first + place) + page % 512) 0 leaf_room (omega arith) ∙ sym (ap (leaves blocks (remove entries i)) page_is ∙ leaf_gone blocks entries i d inside holds.pages))
            (λ j other. word_there memory (512 * (tables.first + place) + page % 512) 0 j leaf_room other)
            (λ p other. leaf_other blocks entries i d p inside (λ e. other (e ∙ sym page_is)));
        counted = recount tables holds.stands.tree frames.counts (number_of entries) (number_with (remove entries i) page 0) (λ h k low. counts h k) holds.stands.counted;
        index = moved places up;
      };
      frames = λ h from to. absurd (omega (arith, from, to));
    };
    only = only;
  }
    where
      only : Only (frames_of tables) memory (with_word memory (512 * (tables.first + place) + page % 512) 0)
      only = only_word (frames_of tables) memory (512 * (tables.first + place) + page % 512) 0 leaf_room
          (own_frame tables (tables.first + place) (page % 512) own_low slot_low)

  pub has_left : (frames1 : TableFrames) (m1 : List ℕ) → frames1 ≡ record frames { places = frames1.places } → HasMovedUp frames.places frames1.places i (length entries)
      → m1 ≡ with_word memory (512 * (tables.first + place) + page % 512) 0 → HasLeft frames1 m1
  has_left frames1 m1 frames_is up m1_is = subst (λ m. HasLeft frames1 m) (sym m1_is) (subst (λ f. HasLeft f (with_word memory (512 * (tables.first + place) + page % 512) 0)) (sym frames_is) (left_with frames1.places up))

  -- in the end the tables are those of the other entries
  pub taken : (frames2 : TableFrames) (m2 way : List ℕ) → IsUnderWay tables blocks most (remove entries i) page top top way (held_in frames2 m2)
      → HoldsList tables blocks most (remove entries i) frames2 m2
  taken frames2 m2 way u = record {
    placed = u.placed;
    count = holds.count;
    bound = holds.bound;
    few = omega (arith, holds.few, shorter);
    fill = all_removed (CanFill blocks) entries i inside holds.fill;
    pages = all_pairs_remove HasOtherPage entries i inside holds.pages;
    kept = subst (λ n. IsKept frames2 (top * most) n) none_more u.kept;
    stands = record {
      tree = u.stands.tree;
      sound = u.stands.sound;
      says = u.stands.says;
      counted = recount tables u.stands.tree frames2.counts (number_with (remove entries i) page top) (number_of (remove entries i)) (λ h k low. sym (with_below (remove entries i) page top h k low)) u.stands.counted;
      index = u.stands.index;
    };
  }
    where
      none_more : top * length (remove entries i) + (top - top) ≡ top * length (remove entries i)
      none_more = omega arith

-- so of a table as a whole, before its tables are left and after
module _ (tables : Tables) (old : CachedTable) (memory : List ℕ) (i : ℕ) (d : Entry) (holds : Holds tables old memory) (inside : i < length old.entries)
    (page place : ℕ) (page_is : page ≡ (get_or old.entries i d).page) (place_is : place ≡ slice_index old.frames.places i)
    (entries1 : List Entry) (entries_is : entries1 ≡ remove old.entries i) where
  pub record IsTaking (frames1 : TableFrames) (m1 : List ℕ) : Type 0 where
    pub small : page < 2 ^ guest_page_bits
    pub room : HasRoom tables old.most entries1
    pub stands : IsUnderWay tables old.part.blocks old.most entries1 page 0 (top + 1) [] (held_in frames1 m1)
    pub only : Only (frames_of tables) memory m1

  pub taking : (frames1 : TableFrames) (m1 : List ℕ) → frames1 ≡ record old.frames { places = frames1.places } → HasMovedUp old.frames.places frames1.places i (length old.entries)
      → m1 ≡ with_word memory (512 * (tables.first + place) + page % 512) 0 → IsTaking frames1 m1
  taking frames1 m1 frames_is up m1_is =
      let left = has_left tables old.part.blocks old.most old.entries old.frames memory i d holds inside page place page_is place_is frames1 m1 frames_is up m1_is in
      let count = length-remove old.entries i inside in
      let few = holds.few in
      record {
        small = subst (λ n. n < 2 ^ guest_page_bits) (sym page_is) (holds.fill i d inside).page;
        room = record { count = holds.count; bound = holds.bound; room = subst (λ es. length es < old.most) (sym entries_is) (omega (arith, count, few)) };
        stands = subst (λ es. IsUnderWay tables old.part.blocks old.most es page 0 (top + 1) [] (held_in frames1 m1)) (sym entries_is) left.stands;
        only = left.only;
      }

  pub record HasTaken (new : CachedTable) (m2 : List ℕ) : Type 0 where
    pub entries : new.entries ≡ remove old.entries i
    pub keeps : KeepsTable tables old memory new m2
    pub list : Holds tables new m2

  pub has_taken : (frames1 : TableFrames) (m1 : List ℕ) (new : CachedTable) (m2 way : List ℕ) → IsTaking frames1 m1
      → new ≡ record old { entries = entries1; frames = new.frames } → UnderWay tables new page top top way m2 → Only (frames_of tables) m1 m2 → HasTaken new m2
  has_taken frames1 m1 new m2 way first rest stands only = record {
    entries = entries2 ∙ entries_is;
    keeps = record {
      part = ap (λ t. t.part) rest;
      most = ap (λ t. t.most) rest;
      only = only_both (frames_of tables) memory m1 m2 first.only only;
    };
    list = subst (λ t. HoldsList tables t.part.blocks t.most t.entries new.frames m2) (sym rest)
        (subst (λ es. HoldsList tables old.part.blocks old.most es new.frames m2) (sym entries_is)
        (taken tables old.part.blocks old.most old.entries old.frames memory i d holds inside page place page_is place_is new.frames m2 way
        (subst (λ es. IsUnderWay tables old.part.blocks old.most es page top top way (held_in new.frames m2)) entries_is
        (subst (λ t. IsUnderWay tables t.part.blocks t.most t.entries page top top way (held_in new.frames m2)) rest stands))));
  }
    where
      entries2 : new.entries ≡ entries1
      entries2 = ap (λ t. t.entries) rest
