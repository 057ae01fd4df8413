-- Tables that stay tidy.
use Rattle.std.proofs.Common.{◌≡◌, ◌≢◌, ℕ, ◌+◌, ◌*◌, ◌<◌, ◌≤◌, ◌⊎◌, inl, inr, List, length, get_or, set, sym, ap, subst, ◌∙◌, arith, length-set}
use Rattle.std.specs.List.{All}
use Rattle.std.proofs.lemmas.Bool.{cases_lt, cases_eq}
use Rattle.std.proofs.lemmas.List.{get_or_default, get_or-set_same, get_or-set_other}
use Rattle.std.proofs.lemmas.List.Elements.{All-set}
use Rattle.arch_defs.specs.Frames.{Apart, Only, Within, within}
use Rattle.arch_defs.specs.Layouts.{Layout, space_frames}
use Rattle.guest_settings.specs.Needs.{tables_for}
use Rattle.arch_defs.proofs.FrameSets.{joined_within, kept, left_within, only_more, range_within, right_within}
use Rattle.shadow_space.specs.Shadows.{KeepsSpace, Tidy, own_frames}
use Rattle.shadow_space.proofs.Partings.{spaces_apart}
use Rattle.shadow_space.proofs.Tidying.{folded, lasts, tables_end}
use Rattle.shadow_pool.specs.declared.slots.Slot.{Slot}
use Rattle.arch_defs.specs.declared.roots.GuestRoot.{GuestRoot}
use Rattle.shadow_pool.specs.Slots.{AreSlots, AreTidy, ComesBefore, FoldedPool, IsSlot, TidyPool, has_key, key_is, pool_of, table_frames_for}
use Rattle.shadow_pool.proofs.Ordering.{pairs_set}

-- a space's frames are among those of that many spaces
pub space_within : (part : Layout) (i count : ℕ) → i < count → Within (space_frames part i) (table_frames_for part count)
space_within part i count own =
    joined_within (within (part.first_root + 4 * (1 + i)) 4) (within (part.first_table + 1 + i * tables_for part.entries) (tables_for part.entries)) (table_frames_for part count)
    (λ f is. left_within (within (part.first_root + 4) (4 * count)) (within (part.first_table + 1) (count * tables_for part.entries)) f
    (range_within (part.first_root + 4 * (1 + i)) 4 (part.first_root + 4) (4 * count) (omega arith) (omega (arith, own)) f is))
    (λ f is. right_within (within (part.first_root + 4) (4 * count)) (within (part.first_table + 1) (count * tables_for part.entries)) f
    (range_within (part.first_table + 1 + i * tables_for part.entries) (tables_for part.entries) (part.first_table + 1) (count * tables_for part.entries) (omega arith)
    (omega (arith, tables_end i count (tables_for part.entries) own)) f is))

module _ (part : Layout) (most : ℕ) (slots : List Slot) (are : AreSlots part most slots) where
  -- the frames of a table, and of all of them
  frames_are : (k : ℕ) (d : Slot) → k < length slots → own_frames (get_or slots k d).space ≡ space_frames part (get_or slots k d).space.index
  frames_are k d h = ap (λ layout. space_frames layout (get_or slots k d).space.index) (are.each k d h).part

  pub frames_within : (k : ℕ) (d : Slot) → k < length slots → Within (own_frames (get_or slots k d).space) (table_frames_for part (length slots))
  frames_within k d h = subst (λ frames. Within frames (table_frames_for part (length slots))) (sym (frames_are k d h)) (space_within part (get_or slots k d).space.index (length slots) (are.each k d h).index)

  differ : (j k : ℕ) (d : Slot) → j < length slots → k < length slots → j ≢ k → (get_or slots j d).space.index ≢ (get_or slots k d).space.index
  differ j k d h h' other = by (cases_lt j k)
    where
      by : (j < k) ⊎ (k ≤ j) → (get_or slots j d).space.index ≢ (get_or slots k d).space.index
      by (inl before) = (are.order j k d before h').index
      by (inr after) = λ same. (are.order k j d (omega (arith, after, other)) h).index (sym same)

  pub frames_apart : (j k : ℕ) (d : Slot) → j < length slots → k < length slots → j ≢ k → Apart (own_frames (get_or slots j d).space) (own_frames (get_or slots k d).space)
  frames_apart j k d h h' other =
      let own = are.own in
      let first = (are.each j d h).index in
      let second = (are.each k d h').index in
      subst (λ frames. Apart frames (own_frames (get_or slots k d).space)) (sym (frames_are j d h))
      (subst (Apart (space_frames part (get_or slots j d).space.index)) (sym (frames_are k d h'))
      (spaces_apart part are.once (get_or slots j d).space.index (get_or slots k d).space.index (omega (arith, own, first)) (omega (arith, own, second)) (differ j k d h h' other)))

  -- one table is written: all are tidy, and only bytes of their frames have changed
  pub one_tidy : (old new : List ℕ) (i : ℕ) (was after : Slot) → i < length slots → was ≡ get_or slots i was → AreTidy slots old → Tidy after.space new
      → Only (own_frames was.space) old new → AreTidy (set slots i after) new
  one_tidy old new i was after inside read tidy is only k d h = by (cases_eq k i)
    where
      few : k < length slots
      few = omega (arith, h, length-set slots i after)

      by : (k ≡ i) ⊎ (k ≢ i) → Tidy (get_or (set slots i after) k d).space new
      by (inl same) = subst (λ slot. Tidy slot.space new) (sym (ap (λ k. get_or (set slots i after) k d) same ∙ get_or-set_same slots i after d inside)) is
      by (inr other) =
          let apart : Apart (own_frames (get_or slots k was).space) (own_frames was.space) = subst (λ slot. Apart (own_frames (get_or slots k was).space) (own_frames slot.space)) (sym read) (frames_apart k i was few inside other) in
          subst (λ slot. Tidy slot.space new) (sym (get_or-set_other slots i k after d other ∙ get_or_default slots k d was few))
          (lasts (get_or slots k was).space old new (kept (own_frames (get_or slots k was).space) (own_frames was.space) old new apart only) (tidy k was few))

  pub one_only : (old new : List ℕ) (i : ℕ) (was : Slot) → i < length slots → was ≡ get_or slots i was → Only (own_frames was.space) old new → Only (table_frames_for part (length slots)) old new
  one_only old new i was inside read only =
      only_more (own_frames was.space) (table_frames_for part (length slots)) old new (subst (λ slot. Within (own_frames slot.space) (table_frames_for part (length slots))) (sym read) (frames_within i was inside)) only

  -- and they are still the tables of a pool, if it is for the same value of hgatp
  pub one_written : (old new : List ℕ) (i : ℕ) (was after : Slot) → i < length slots → was ≡ get_or slots i was → after.key ≡ was.key → KeepsSpace was.space old after.space new → AreSlots part most (set slots i after)
  one_written old new i was after inside read key keeps = record {
    some = subst (λ n. 1 ≤ n) (sym (length-set slots i after)) are.some;
    own = subst (λ n. n ≤ part.spaces) (sym (length-set slots i after)) are.own;
    once = are.once;
    each = subst (λ n. All (IsSlot part most n) (set slots i after)) (sym (length-set slots i after)) (All-set (IsSlot part most (length slots)) slots i after is_slot are.each);
    order = pairs_set ComesBefore slots i after inside (λ d z before. first z (subst (λ slot. ComesBefore slot z) (same d) before)) (λ d z before. second z (subst (ComesBefore z) (same d) before)) are.order;
  }
    where
      same : (d : Slot) → get_or slots i d ≡ was
      same d = get_or_default slots i d was inside ∙ sym read

      is_slot : IsSlot part most (length slots) after
      is_slot =
          let one = subst (IsSlot part most (length slots)) (sym read) (are.each i was inside) in
          record { part = keeps.part ∙ one.part; most = keeps.most ∙ one.most; index = subst (λ n. n < length slots) (sym keeps.index) one.index }

      has : (other : GuestRoot) → has_key other after ≡ has_key other was
      has other = ap (key_is other) key

      first : (z : Slot) → ComesBefore was z → ComesBefore after z
      first z before = record {
        index = λ equal. before.index (sym keeps.index ∙ equal);
        key = λ other is. before.key other (sym (has other) ∙ is);
        spare = λ none. before.spare (sym key ∙ none);
      }

      second : (z : Slot) → ComesBefore z was → ComesBefore z after
      second z before = record {
        index = λ equal. before.index (equal ∙ keeps.index);
        key = λ other is. has other ∙ before.key other is;
        spare = λ none. key ∙ before.spare none;
      }

-- tidy tables are folded
pub pool_folded : (slots : List Slot) (memory : List ℕ) → TidyPool (pool_of slots) memory → FoldedPool (pool_of slots) memory
pool_folded slots memory tidy = record { tidy = tidy; folded = λ k d h. folded (get_or slots k d).space memory (tidy.tables k d h) }
