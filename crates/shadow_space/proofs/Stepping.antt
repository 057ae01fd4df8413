-- One more entry in a table.
use Rattle.std.proofs.Common.{◌≡◌, ◌≢◌, ℕ, suc, ◌+◌, ◌-◌, ◌*◌, ◌<◌, ◌≤◌, ◌^◌, ◌⊎◌, inl, inr, false, ◌==◌, List, length, slice_index, slice_set, Option, Some, None, refl, sym, ap, subst, ◌∙◌, arith}
use Rattle.std.specs.Prelude.{slice_index_or}
use Rattle.std.proofs.lemmas.Bool.{eq-eqb, ne_eqb}
use Rattle.std.proofs.lemmas.List.{get_or-set_same, get_or-set_other}
use Rattle.arch_defs.specs.declared.cached.Entry.{Entry}
use Rattle.arch_defs.specs.Frames.{Only}
use Rattle.arch_defs.proofs.FrameSets.{only_none}
use Rattle.shadow_space.specs.declared.writing.Tables.{Tables}
use Rattle.shadow_space.specs.Held.{HasFree, Held, IsCounted, IsCounting, IsKept, Stands, table_entered, entered_frame, next_free}
use Rattle.shadow_space.specs.Trees.{Free, HasTables, IsOwn, IsTree, Table, Tree, entry_of, frames_of, pointer_of, prefix, slots, top}
use Rattle.shadow_space.proofs.Adding.{IsAdded, added_says, added_sound, same_pair}
use Rattle.shadow_space.proofs.Counting.{counted_few, counted_inside, has_free, kept_more, kept_opened, left_few}
use Rattle.shadow_space.proofs.Placing.{place_added, with_place}
use Rattle.shadow_space.proofs.Slots.{own_frame, own_room}
use Rattle.table_words.specs.Entries.{named_frame, pointer_word}
use Rattle.table_words.proofs.Pointers.{pointer_names, pointer_small, pointer_some}
use Rattle.table_words.specs.Words.{doubleword_at, with_word}
use Rattle.table_words.proofs.Words.{only_word, same_or, word_here, word_there}

-- the second numbers are the first with one more in one table
pub record IsMore (number number' : ℕ → ℕ → ℕ) (h k : ℕ) : Type 0 where
  pub here : number' h k ≡ number h k + 1
  pub others : (h' k' : ℕ) → h' < top → ((h' ≡ h) × (k' ≡ k) → ⊥) → number' h' k' ≡ number h' k'

pub record HasEntered (tables : Tables) (number number' : ℕ → ℕ → ℕ) (leaf : ℕ → ℕ) (entries : List Entry) (old new : Held) (was : Stands tables number leaf entries old) (count total h k frame : ℕ) : Type 0 where
  pub stands : Stands tables number' leaf entries new
  pub place : stands.tree.place h k ≡ Some frame
  pub places : (h' k' f : ℕ) → h' ≢ h → was.tree.place h' k' ≡ Some f → stands.tree.place h' k' ≡ Some f
  pub kept : IsKept new.frames count (total + 1)
  pub only : Only (frames_of tables) old.memory new.memory

-- a table below the root is in one of the other frames
pub low_range : (tables : Tables) (tree : Tree) (f h k : ℕ) → IsTree tables tree → tree.place h k ≡ Some f → h < top → (tables.first ≤ f) × (f < tables.first + tables.count)
low_range tables tree f h k sound place low = by (sound.own f h k place)
  where
    by : IsOwn tables f → (tables.first ≤ f) × (f < tables.first + tables.count)
    by (inr range) = range
    by (inl is) =
        let a = sound.root in
        let b = sound.forth f h k place in
        let c : tree.content f ≡ tree.content tables.root = ap tree.content is in
        let at_top : top ≡ h = cc in
        absurd (omega (arith, at_top, low))

-- two tables are in two frames
pub other_frame : (tables : Tables) (tree : Tree) (f f' h k h' k' : ℕ) → IsTree tables tree → tree.place h k ≡ Some f → tree.place h' k' ≡ Some f' → ((h' ≡ h) × (k' ≡ k) → ⊥) → f' ≢ f
other_frame tables tree f f' h k h' k' sound place place' differs is =
    let a = sound.forth f h k place in
    let b = sound.forth f' h' k' place' in
    let c : tree.content f' ≡ tree.content f = ap tree.content is in
    let s0 : h' ≡ h = cc in
    let s1 : k' ≡ k = cc in
    differs (s0, s1)

pub same_frame : (tree : Tree) (f f' h k h' k' : ℕ) → tree.place h k ≡ Some f → tree.place h' k' ≡ Some f' → h' ≡ h → k' ≡ k → f' ≡ f
same_frame tree f f' h k h' k' place place' s0 s1 = cc

-- counts that change at one frame, whose table stays
pub recounted : (tables : Tables) (tree : Tree) (counts : List ℕ) (number number' : ℕ → ℕ → ℕ) (h k f n : ℕ) → IsTree tables tree → IsCounted tables tree counts number
    → h < top → tree.place h k ≡ Some f → f - tables.first < length counts → 0 < n → number' h k ≡ n
    → ((h' k' : ℕ) → h' < top → ((h' ≡ h) × (k' ≡ k) → ⊥) → number' h' k' ≡ number h' k')
    → IsCounted tables tree (slice_set counts (f - tables.first) n) number'
recounted tables tree counts number number' h k f n sound counted low place inside some here others = record {
  some = λ h' k' f' low' place'. some_of h' k' f' low' place' (same_pair h k h' k');
  none = λ h' k' low' missing. others h' k' low' (λ e. not_here h' k' missing e.0 e.1) ∙ counted.none h' k' low' missing;
  free = λ j own zero_is. free_of j own zero_is (same_or j (f - tables.first));
}
  where
    not_here : (h' k' : ℕ) → tree.place h' k' ≡ None → h' ≡ h → k' ≡ k → ⊥
    not_here h' k' missing s0 s1 = let a = place in absurd cc

    some_of : (h' k' f' : ℕ) → h' < top → tree.place h' k' ≡ Some f' → ((h' ≡ h) × (k' ≡ k)) ⊎ ((h' ≡ h) × (k' ≡ k) → ⊥)
        → (slice_index (slice_set counts (f - tables.first) n) (f' - tables.first) ≡ number' h' k') × (0 < number' h' k')
    some_of h' k' f' low' place' (inl same) =
        let there : f' ≡ f = same_frame tree f f' h k h' k' place place' same.0 same.1 in
        let s0 = same.0 in
        let s1 = same.1 in
        let number_is : number' h' k' ≡ n = ap (λ m. number' m k') s0 ∙ ap (number' h) s1 ∙ here in
        (ap (λ m. slice_index (slice_set counts (f - tables.first) n) (m - tables.first)) there ∙ get_or-set_same counts (f - tables.first) n 0 inside ∙ sym number_is, omega (arith, number_is, some))
    some_of h' k' f' low' place' (inr differs) =
        let was = counted.some h' k' f' low' place' in
        let range = low_range tables tree f h k sound place low in
        let range' = low_range tables tree f' h' k' sound place' low' in
        let apart = other_frame tables tree f f' h k h' k' sound place place' differs in
        let number_is = others h' k' low' differs in
        (get_or-set_other counts (f - tables.first) (f' - tables.first) n 0 (λ e. apart (omega (arith, e, range.0, range'.0))) ∙ was.0 ∙ sym number_is, omega (arith, was.1, number_is))

    free_of : (j : ℕ) → j < tables.count → slice_index (slice_set counts (f - tables.first) n) j ≡ 0 → (j ≡ f - tables.first) ⊎ (j ≢ f - tables.first) → tree.content (tables.first + j) ≡ Free
    free_of j own zero_is (inl is) =
        absurd (omega (arith, ap (slice_index (slice_set counts (f - tables.first) n)) is ∙ get_or-set_same counts (f - tables.first) n 0 inside, zero_is, some))
    free_of j own zero_is (inr other) = counted.free j own (sym (get_or-set_other counts (f - tables.first) j n 0 other) ∙ zero_is)

module _ (tables : Tables) (number : ℕ → ℕ → ℕ) (leaf : ℕ → ℕ) (entries : List Entry) (held : Held) (count total h k t s parent : ℕ)
    (placed : HasTables tables (length held.memory)) (fits : count ≤ tables.count) (kept : IsKept held.frames count total) (stands : Stands tables number leaf entries held)
    (low : h < top) (above : stands.tree.content parent ≡ Table (suc h) t) (slot : s < slots tables parent) (is : 512 * t + s ≡ k) where
  parent_own : IsOwn tables parent
  parent_own = stands.sound.own parent (suc h) t (stands.sound.back parent (suc h) t above)

  pub room : 8 * (512 * parent + s) + 8 ≤ length held.memory
  room = own_room tables (length held.memory) parent s placed.lies parent_own slot

  pub entry_is : doubleword_at held.memory (512 * parent + s) ≡ pointer_of (stands.tree.place h k)
  entry_is =
      stands.says.words parent s parent_own slot
      ∙ ap (λ c. entry_of stands.tree leaf c s) above
      ∙ ap (λ n. pointer_of (stands.tree.place h n)) is

  -- the frame of a table has a small number
  table_small : (f : ℕ) → stands.tree.place h k ≡ Some f → f < 2 ^ 44
  table_small f place = let range = low_range tables stands.tree f h k stands.sound place low in omega (arith, range.1, placed.others)

  -- and a count
  pub frame_counts : (f : ℕ) → stands.tree.place h k ≡ Some f → total < 65535 → IsCounting held.frames tables.first f
  frame_counts f place small =
      let range = low_range tables stands.tree f h k stands.sound place low in
      let counts = stands.counted.some h k f low place in
      record {
        from = range.0;
        inside = omega (arith, counted_inside held.frames count total (f - tables.first) kept (omega (arith, counts.0, counts.1)), kept.few);
        room = omega (arith, counted_few held.frames count total (f - tables.first) kept, small);
      }

  pub some_counts : total < 65535 → doubleword_at held.memory (512 * parent + s) ≢ 0 → IsCounting held.frames tables.first (named_frame (doubleword_at held.memory (512 * parent + s)))
  some_counts small some = by (stands.tree.place h k) refl
    where
      by : (o : Option ℕ) → stands.tree.place h k ≡ o → IsCounting held.frames tables.first (named_frame (doubleword_at held.memory (512 * parent + s)))
      by None place = absurd (some (entry_is ∙ ap pointer_of place))
      by (Some f) place = subst (IsCounting held.frames tables.first) (sym (ap named_frame (entry_is ∙ ap pointer_of place) ∙ pointer_names f (table_small f place))) (frame_counts f place small)

  -- what is free
  pub can_open : total < count → HasFree held.frames tables.first
  can_open some =
      let left = has_free held.frames count total kept some in
      let few = kept.few in
      record {
        some = left;
        most = omega (arith, left_few held.frames count total kept, few);
        inside = omega (arith, kept.below (held.frames.left - 1) (omega (arith, left)), few);
        small = omega (arith, kept.below (held.frames.left - 1) (omega (arith, left)), fits, placed.others);
      }

  module _ (number' : ℕ → ℕ → ℕ) (counts : IsMore number number' h k) where
    -- where there is a table
    entered_some : (f : ℕ) → stands.tree.place h k ≡ Some f
        → HasEntered tables number number' leaf entries held (table_entered tables.first (512 * parent + s) held) stands count total h k (entered_frame tables.first (512 * parent + s) held)
    unfolding table_entered entered_frame
    entered_some f place =
        let word : doubleword_at held.memory (512 * parent + s) ≡ pointer_word f = entry_is ∙ ap pointer_of place in
        let some : (doubleword_at held.memory (512 * parent + s) == 0) ≡ false = ne_eqb (doubleword_at held.memory (512 * parent + s)) 0 (λ e. pointer_some f (sym word ∙ e)) in
        let frame : named_frame (doubleword_at held.memory (512 * parent + s)) ≡ f = ap named_frame word ∙ pointer_names f (table_small f place) in
        let was = stands.counted.some h k f low place in
        let inside = counted_inside held.frames count total (f - tables.first) kept (omega (arith, was.0, was.1)) in
        rw (some, frame) (record {
          stands = record {
            tree = stands.tree;
            sound = stands.sound;
            says = stands.says;
            counted = recounted tables stands.tree held.frames.counts number number' h k f (slice_index held.frames.counts (f - tables.first) + 1) stands.sound stands.counted
                low place (omega (arith, inside, kept.few, kept.counts)) (omega arith) (counts.here ∙ ap (λ n. n + 1) (sym was.0)) counts.others;
            index = stands.index;
          };
          place = place;
          places = λ h' k' f' other there. there;
          kept = kept_more held.frames count total kept (f - tables.first) (omega (arith, was.0, was.1));
          only = only_none (frames_of tables) held.memory;
        })

    -- where there is none
    module _ (place : stands.tree.place h k ≡ None) (some : total < count) where
      fresh : ℕ
      fresh = tables.first + next_free held.frames

      inside : next_free held.frames < count
      inside = kept.below (held.frames.left - 1) (omega (arith, has_free held.frames count total kept some))

      zero_is : slice_index held.frames.counts (next_free held.frames) ≡ 0
      zero_is = kept.zero (held.frames.left - 1) (omega (arith, has_free held.frames count total kept some))

      fresh_own : IsOwn tables (tables.first + next_free held.frames)
      fresh_own = inr (omega arith, omega (arith, inside, fits))

      free : stands.tree.content (tables.first + next_free held.frames) ≡ Free
      free = stands.counted.free (next_free held.frames) (omega (arith, inside, fits)) zero_is

      fresh_small : pointer_word (tables.first + next_free held.frames) < 2 ^ 64
      fresh_small = pointer_small (tables.first + next_free held.frames) (omega (arith, placed.others, inside, fits))

      added : IsAdded stands.tree (with_place stands.tree (tables.first + next_free held.frames) h k) (tables.first + next_free held.frames) h k
      added = place_added stands.tree (tables.first + next_free held.frames) h k

      other_place : (h' k' f : ℕ) → stands.tree.place h' k' ≡ Some f → (h' ≡ h) × (k' ≡ k) → ⊥
      other_place h' k' f there same =
          let a = place in
          let s0 = same.0 in
          let s1 = same.1 in
          absurd cc

      set_length : next_free held.frames < length held.frames.counts
      set_length = omega (arith, inside, kept.few, kept.counts)

      counted' : IsCounted tables (with_place stands.tree (tables.first + next_free held.frames) h k) (slice_set held.frames.counts (next_free held.frames) 1) number'
      counted' = record {
        some = λ h' k' f low' there. some_of h' k' f low' there (same_pair h k h' k');
        none = λ h' k' low' missing. none_of h' k' low' missing (same_pair h k h' k');
        free = λ j own zeros. free_of j own zeros (same_or j (next_free held.frames));
      }
        where
          some_of : (h' k' f : ℕ) → h' < top → (with_place stands.tree (tables.first + next_free held.frames) h k).place h' k' ≡ Some f → ((h' ≡ h) × (k' ≡ k)) ⊎ ((h' ≡ h) × (k' ≡ k) → ⊥)
              → (slice_index (slice_set held.frames.counts (next_free held.frames) 1) (f - tables.first) ≡ number' h' k') × (0 < number' h' k')
          some_of h' k' f low' there (inl same) =
              let at = same_frame (with_place stands.tree (tables.first + next_free held.frames) h k) (tables.first + next_free held.frames) f h k h' k' added.place there same.0 same.1 in
              let s0 = same.0 in
              let s1 = same.1 in
              let none_is = stands.counted.none h k low place in
              let here = counts.here in
              let number_is : number' h' k' ≡ 1 = ap (λ m. number' m k') s0 ∙ ap (number' h) s1 ∙ here ∙ ap (λ n. n + 1) none_is in
              let j_is : f - tables.first ≡ next_free held.frames = omega (arith, at) in
              (ap (slice_index (slice_set held.frames.counts (next_free held.frames) 1)) j_is ∙ get_or-set_same held.frames.counts (next_free held.frames) 1 0 set_length ∙ sym number_is, omega (arith, number_is))
          some_of h' k' f low' there (inr differs) =
              let was_place = sym (added.places h' k' differs) ∙ there in
              let was = stands.counted.some h' k' f low' was_place in
              let number_is = counts.others h' k' low' differs in (
                get_or-set_other held.frames.counts (next_free held.frames) (f - tables.first) 1 0
                    (λ e. omega (arith, ap (slice_index held.frames.counts) e, was.0, was.1, zero_is)) ∙ was.0 ∙ sym number_is,
                omega (arith, was.1, number_is),
              )

          none_of : (h' k' : ℕ) → h' < top → (with_place stands.tree (tables.first + next_free held.frames) h k).place h' k' ≡ None → ((h' ≡ h) × (k' ≡ k)) ⊎ ((h' ≡ h) × (k' ≡ k) → ⊥) → number' h' k' ≡ 0
          none_of h' k' low' missing (inl same) =
              let a = added.place in
              let s0 = same.0 in
              let s1 = same.1 in
              absurd cc
          none_of h' k' low' missing (inr differs) = counts.others h' k' low' differs ∙ stands.counted.none h' k' low' (sym (added.places h' k' differs) ∙ missing)

          free_of : (j : ℕ) → j < tables.count → slice_index (slice_set held.frames.counts (next_free held.frames) 1) j ≡ 0 → (j ≡ next_free held.frames) ⊎ (j ≢ next_free held.frames)
              → (with_place stands.tree (tables.first + next_free held.frames) h k).content (tables.first + j) ≡ Free
          free_of j own zeros (inl same) =
              absurd (omega (arith, ap (slice_index (slice_set held.frames.counts (next_free held.frames) 1)) same ∙ get_or-set_same held.frames.counts (next_free held.frames) 1 0 set_length, zeros))
          free_of j own zeros (inr other) =
              added.contents (tables.first + j) (λ e. other (omega (arith, e)))
              ∙ stands.counted.free j own (sym (get_or-set_other held.frames.counts (next_free held.frames) j 1 0 other) ∙ zeros)

      entered_none : HasEntered tables number number' leaf entries held (table_entered tables.first (512 * parent + s) held) stands count total h k (entered_frame tables.first (512 * parent + s) held)
      unfolding table_entered entered_frame
      entered_none =
          let word : doubleword_at held.memory (512 * parent + s) ≡ 0 = entry_is ∙ ap pointer_of place in
          rw (eq-eqb (doubleword_at held.memory (512 * parent + s)) 0 word) (record {
            stands = record {
              tree = with_place stands.tree (tables.first + next_free held.frames) h k;
              sound = added_sound tables stands.tree (with_place stands.tree (tables.first + next_free held.frames) h k) (tables.first + next_free held.frames) h k stands.sound added free place low fresh_own;
              says = added_says tables stands.tree (with_place stands.tree (tables.first + next_free held.frames) h k) (doubleword_at held.memory)
                  (doubleword_at (with_word held.memory (512 * parent + s) (pointer_word (tables.first + next_free held.frames)))) leaf (tables.first + next_free held.frames) h k parent t s
                  stands.sound stands.says added free place low fresh_own above slot is
                  (word_here held.memory (512 * parent + s) (pointer_word (tables.first + next_free held.frames)) room fresh_small)
                  (λ i other. word_there held.memory (512 * parent + s) (pointer_word (tables.first + next_free held.frames)) i room other);
              counted = counted';
              index = λ i e h'. added.places 0 (prefix 0 (slice_index_or entries i e).page) (other_place 0 (prefix 0 (slice_index_or entries i e).page) _ (stands.index i e h')) ∙ stands.index i e h';
            };
            place = added.place;
            places = λ h' k' f' other there. added.places h' k' (λ same. other same.0) ∙ there;
            kept = kept_opened held.frames count total kept (has_free held.frames count total kept some);
            only = only_word (frames_of tables) held.memory (512 * parent + s) (pointer_word (tables.first + next_free held.frames)) room (own_frame tables parent s parent_own slot);
          })

    pub enters : total < count → HasEntered tables number number' leaf entries held (table_entered tables.first (512 * parent + s) held) stands count total h k (entered_frame tables.first (512 * parent + s) held)
    enters some = by (stands.tree.place h k) refl
      where
        by : (o : Option ℕ) → stands.tree.place h k ≡ o
            → HasEntered tables number number' leaf entries held (table_entered tables.first (512 * parent + s) held) stands count total h k (entered_frame tables.first (512 * parent + s) held)
        by (Some f) place = entered_some f place
        by None place = entered_none place some
