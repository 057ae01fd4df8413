-- One entry less in a table.
use Rattle.std.proofs.Common.{◌≡◌, ◌≢◌, ℕ, suc, ◌+◌, ◌-◌, ◌*◌, ◌<◌, ◌≤◌, ◌⊎◌, inl, inr, List, length, slice_index, slice_set, Some, None, sym, ap, ◌∙◌, arith}
use Rattle.std.specs.Prelude.{slice_index_or}
use Rattle.std.proofs.lemmas.Bool.{eq-eqb, ne_eqb}
use Rattle.std.proofs.lemmas.List.{get_or-set_other}
use Rattle.arch_defs.specs.declared.cached.Entry.{Entry}
use Rattle.arch_defs.specs.Frames.{Only}
use Rattle.arch_defs.proofs.FrameSets.{only_none}
use Rattle.shadow_space.specs.declared.writing.Tables.{Tables}
use Rattle.shadow_space.specs.Held.{Held, IsCounted, IsKept, Stands, departed}
use Rattle.shadow_space.specs.Trees.{Free, HasTables, IsOwn, Table, entry_of, frames_of, prefix, slots, top}
use Rattle.shadow_space.proofs.Adding.{IsAdded, same_pair}
use Rattle.shadow_space.proofs.Counting.{counted_inside, kept_closed, kept_fewer}
use Rattle.shadow_space.proofs.Placing.{place_removed, removed_free, removed_none, without_place}
use Rattle.shadow_space.proofs.Removing.{removed_says, removed_sound}
use Rattle.shadow_space.proofs.Slots.{own_frame, own_room}
use Rattle.table_words.specs.Words.{doubleword_at, with_word}
use Rattle.table_words.proofs.Words.{only_word, same_or, word_here, word_there}
use Rattle.shadow_space.proofs.Stepping.{IsMore, low_range, other_frame, recounted}

-- what is left when an entry is gone
pub record HasDeparted (tables : Tables) (number number' : ℕ → ℕ → ℕ) (leaf : ℕ → ℕ) (entries : List Entry) (old new : Held) (was : Stands tables number leaf entries old) (count total h : ℕ) : Type 0 where
  pub stands : Stands tables number' leaf entries new
  pub places : (h' k' f : ℕ) → h' ≢ h → was.tree.place h' k' ≡ Some f → stands.tree.place h' k' ≡ Some f
  pub kept : IsKept new.frames count (total - 1)
  pub only : Only (frames_of tables) old.memory new.memory

module _ (tables : Tables) (number number' : ℕ → ℕ → ℕ) (leaf : ℕ → ℕ) (entries : List Entry) (held : Held) (count total h k t s parent f : ℕ)
    (placed : HasTables tables (length held.memory)) (fits : count ≤ tables.count) (kept : IsKept held.frames count total) (stands : Stands tables number leaf entries held)
    (low : h < top) (above : stands.tree.content parent ≡ Table (suc h) t) (slot : s < slots tables parent) (is : 512 * t + s ≡ k)
    (place : stands.tree.place h k ≡ Some f) (counts : IsMore number' number h k) (positive : 0 < total)
    (empty : number' h k ≡ 0 → (u : ℕ) → u < 512 → entry_of stands.tree leaf (Table h k) u ≡ 0)
    (keeps : (i : ℕ) (e : Entry) → i < length entries → 0 < number' 0 (prefix 0 (slice_index_or entries i e).page)) where
  own : IsOwn tables parent
  own = stands.sound.own parent (suc h) t (stands.sound.back parent (suc h) t above)

  room_here : 8 * (512 * parent + s) + 8 ≤ length held.memory
  room_here = own_room tables (length held.memory) parent s placed.lies own slot

  count_is : slice_index held.frames.counts (f - tables.first) ≡ number' h k + 1
  count_is = (stands.counted.some h k f low place).0 ∙ counts.here

  inside : f - tables.first < length held.frames.counts
  inside = omega (arith, counted_inside held.frames count total (f - tables.first) kept (omega (arith, count_is)), kept.few, kept.counts)

  range : (tables.first ≤ f) × (f < tables.first + tables.count)
  range = low_range tables stands.tree f h k stands.sound place low

  -- where other entries are left in its table
  departed_some : slice_index held.frames.counts (f - tables.first) ≢ 1
      → HasDeparted tables number number' leaf entries held (departed tables.first (512 * parent + s) f held) stands count total h
  unfolding departed
  departed_some some =
      rw (ne_eqb (slice_index held.frames.counts (f - tables.first)) 1 some) (record {
        stands = record {
          tree = stands.tree;
          sound = stands.sound;
          says = stands.says;
          counted = recounted tables stands.tree held.frames.counts number number' h k f (slice_index held.frames.counts (f - tables.first) - 1) stands.sound stands.counted
              low place inside (omega (arith, some, count_is)) (omega (arith, count_is))
              (λ h' k' low' differs. sym (counts.others h' k' low' differs));
          index = stands.index;
        };
        places = λ h' k' f' other there. there;
        kept = kept_fewer held.frames count total kept (f - tables.first) (omega (arith, some, count_is)) positive;
        only = only_none (frames_of tables) held.memory;
      })

  -- and where none is
  module _ (one : slice_index held.frames.counts (f - tables.first) ≡ 1) where
    none_left : number' h k ≡ 0
    none_left = omega (arith, one, count_is)

    removed : IsAdded (without_place stands.tree f h k) stands.tree f h k
    removed = place_removed stands.tree f h k (stands.sound.forth f h k place) place

    counted' : IsCounted tables (without_place stands.tree f h k) (slice_set held.frames.counts (f - tables.first) 0) number'
    counted' = record {
      some = λ h' k' f' low' there. some_of h' k' f' low' there (same_pair h k h' k');
      none = λ h' k' low' missing. none_of h' k' low' missing (same_pair h k h' k');
      free = λ j own zeros. free_of j own zeros (same_or j (f - tables.first));
    }
      where
        some_of : (h' k' f' : ℕ) → h' < top → (without_place stands.tree f h k).place h' k' ≡ Some f' → ((h' ≡ h) × (k' ≡ k)) ⊎ ((h' ≡ h) × (k' ≡ k) → ⊥)
            → (slice_index (slice_set held.frames.counts (f - tables.first) 0) (f' - tables.first) ≡ number' h' k') × (0 < number' h' k')
        some_of h' k' f' low' there (inl same) =
            let a = removed_none stands.tree f h k in
            let s0 = same.0 in
            let s1 = same.1 in
            absurd cc
        some_of h' k' f' low' there (inr differs) =
            let was_place = removed.places h' k' differs ∙ there in
            let was = stands.counted.some h' k' f' low' was_place in
            let range' = low_range tables stands.tree f' h' k' stands.sound was_place low' in
            let apart = other_frame tables stands.tree f f' h k h' k' stands.sound place was_place differs in
            let number_is = counts.others h' k' low' differs in
            (get_or-set_other held.frames.counts (f - tables.first) (f' - tables.first) 0 0 (λ e. apart (omega (arith, e, range.0, range'.0))) ∙ was.0 ∙ number_is, omega (arith, was.1, number_is))

        none_of : (h' k' : ℕ) → h' < top → (without_place stands.tree f h k).place h' k' ≡ None → ((h' ≡ h) × (k' ≡ k)) ⊎ ((h' ≡ h) × (k' ≡ k) → ⊥) → number' h' k' ≡ 0
        none_of h' k' low' missing (inl same) = ap (λ m. number' m k') same.0 ∙ ap (number' h) same.1 ∙ none_left
        none_of h' k' low' missing (inr differs) = sym (counts.others h' k' low' differs) ∙ stands.counted.none h' k' low' (removed.places h' k' differs ∙ missing)

        free_of : (j : ℕ) → j < tables.count → slice_index (slice_set held.frames.counts (f - tables.first) 0) j ≡ 0 → (j ≡ f - tables.first) ⊎ (j ≢ f - tables.first)
            → (without_place stands.tree f h k).content (tables.first + j) ≡ Free
        free_of j own zeros (inl same) =
            let there : tables.first + j ≡ f = omega (arith, same, range.0) in
            ap (without_place stands.tree f h k).content there ∙ removed_free stands.tree f h k
        free_of j own zeros (inr other) =
            sym (removed.contents (tables.first + j) (λ e. other (omega (arith, e))))
            ∙ stands.counted.free j own (sym (get_or-set_other held.frames.counts (f - tables.first) j 0 0 other) ∙ zeros)

    places' : (h' k' f' : ℕ) → ((h' ≡ h) × (k' ≡ k) → ⊥) → stands.tree.place h' k' ≡ Some f' → (without_place stands.tree f h k).place h' k' ≡ Some f'
    places' h' k' f' differs there = sym (removed.places h' k' differs) ∙ there

    departed_none : HasDeparted tables number number' leaf entries held (departed tables.first (512 * parent + s) f held) stands count total h
    unfolding departed
    departed_none =
        rw (eq-eqb (slice_index held.frames.counts (f - tables.first)) 1 one) (record {
          stands = record {
            tree = without_place stands.tree f h k;
            sound = removed_sound tables stands.tree (without_place stands.tree f h k) f h k stands.sound removed (removed_free stands.tree f h k) (removed_none stands.tree f h k) low;
            says = removed_says tables stands.tree (without_place stands.tree f h k) (doubleword_at held.memory) (doubleword_at (with_word held.memory (512 * parent + s) 0)) leaf f h k parent t s
                stands.sound stands.says removed (removed_free stands.tree f h k) (removed_none stands.tree f h k) low above slot is (empty none_left)
                (word_here held.memory (512 * parent + s) 0 room_here (omega arith))
                (λ i other. word_there held.memory (512 * parent + s) 0 i room_here other);
            counted = counted';
            index = λ i e h'. places' 0 (prefix 0 (slice_index_or entries i e).page) _
                (λ same. omega (arith, keeps i e h', ap (λ m. number' m (prefix 0 (slice_index_or entries i e).page)) same.0 ∙ ap (number' h) same.1 ∙ none_left)) (stands.index i e h');
          };
          places = λ h' k' f' other there. places' h' k' f' (λ same. other same.0) there;
          kept = kept_closed held.frames count total kept (f - tables.first) one (counted_inside held.frames count total (f - tables.first) kept (omega (arith, one))) positive;
          only = only_word (frames_of tables) held.memory (512 * parent + s) 0 room_here (own_frame tables parent s own slot);
        })

  pub departs : HasDeparted tables number number' leaf entries held (departed tables.first (512 * parent + s) f held) stands count total h
  departs = by (same_or (slice_index held.frames.counts (f - tables.first)) 1)
    where
      by : (slice_index held.frames.counts (f - tables.first) ≡ 1) ⊎ (slice_index held.frames.counts (f - tables.first) ≢ 1)
          → HasDeparted tables number number' leaf entries held (departed tables.first (512 * parent + s) f held) stands count total h
      by (inl one) = departed_none one
      by (inr some) = departed_some some
