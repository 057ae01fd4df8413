-- The tables of a pool, one of which comes to the front.
use Rattle.std.proofs.Common.{◌≡◌, ℕ, suc, ◌-◌, ◌<◌, ◌≤◌, true, false, List, [], ◌∷◌, ◌++◌, Some, length, get_or, set, take, drop, sym, ap, subst, ◌∙◌, arith, length-set, length-take-le, append-nil}
use Rattle.std.specs.List.{All, remove}
use Rattle.std.proofs.lemmas.List.{drop_all, get_or_default, get_or-set_same, get_or-take, take-set}
use Rattle.std.proofs.lemmas.List.Edits.{length-remove}
use Rattle.std.proofs.lemmas.List.Elements.{All-cons, All-take}
use Rattle.std.proofs.lemmas.List.Kept.{AllPairs-cons}
use Rattle.arch_defs.specs.declared.roots.GuestRoot.{GuestRoot}
use Rattle.arch_defs.specs.Frames.{Only}
use Rattle.arch_defs.specs.Layouts.{Layout}
use Rattle.shadow_space.specs.Shadows.{KeepsSpace}
use Rattle.shadow_pool.specs.declared.slots.Slot.{Slot}
use Rattle.shadow_pool.specs.Slots.{AreSlots, AreTidy, ComesBefore, IsSlot, KeepsPool, TidyPool, has_key, key_is, most_of, part_of, pool_frames, pool_of}
use Rattle.arch_defs.proofs.SameRoots.{root_same}
use Rattle.shadow_pool.proofs.Keys.{not_none, turns}
use Rattle.shadow_pool.proofs.Ordering.{all_moved, pairs_moved, pairs_take}

-- the part and the room of tables, from any of them
pub as_first : (part : Layout) (most : ℕ) (slots : List Slot) → AreSlots part most slots → (part_of slots ≡ part) × (most_of slots ≡ most)
as_first part most [] are = let some = are.some in absurd (omega (arith, some))
as_first part most (slot ∷ slots) are = let first = are.each 0 slot (omega arith) in (first.part, first.most)

-- tables of the same pool, tidy after a change of memory
pub record IsChanged (slots : List Slot) (old : List ℕ) (after : List Slot) (new : List ℕ) : Type 0 where
  pub keeps : KeepsPool (pool_of slots) old (pool_of after) new
  pub tidy : TidyPool (pool_of after) new

pub slots_changed : (slots after : List Slot) (old new : List ℕ) → AreSlots (part_of slots) (most_of slots) after → length after ≡ length slots → AreTidy after new → Only (pool_frames (pool_of slots)) old new
    → IsChanged slots old after new
slots_changed slots after old new are count tidy only =
    let first = as_first (part_of slots) (most_of slots) after are in
    record {
      keeps = record { part = first.0; most = first.1; room = count; only = only };
      tidy = record {
        slots = subst (λ part. AreSlots part (most_of after) after) (sym first.0) (subst (λ most. AreSlots (part_of slots) most after) (sym first.1) are);
        tables = tidy;
      };
    }

module _ (part : Layout) (most : ℕ) (slots : List Slot) (are : AreSlots part most slots) where
  -- a table that is for a value of hgatp comes to the front
  pub moved_count : (i : ℕ) (d : Slot) → i < length slots → length (get_or slots i d ∷ remove slots i) ≡ length slots
  moved_count i d inside = let count = length-remove slots i inside in omega (arith, count)

  pub moved_slots : (key : GuestRoot) (i : ℕ) (d : Slot) → i < length slots → has_key key (get_or slots i d) ≡ true → AreSlots part most (get_or slots i d ∷ remove slots i)
  moved_slots key i d inside has =
      let count = moved_count i d inside in
      record {
        some = subst (λ n. 1 ≤ n) (sym count) are.some;
        own = subst (λ n. n ≤ part.spaces) (sym count) are.own;
        once = are.once;
        each = subst (λ n. All (IsSlot part most n) (get_or slots i d ∷ remove slots i)) (sym count) (all_moved (IsSlot part most (length slots)) slots i d inside are.each);
        order = pairs_moved ComesBefore slots i d inside (λ k below before. turns key (get_or slots k d) (get_or slots i d) has before) are.order;
      }

  -- the last table comes to the front for a value of hgatp that none was for
  pub last_moved : (first d : Slot) → get_or (set slots (length slots - 1) first) (length slots - 1) d ∷ remove (set slots (length slots - 1) first) (length slots - 1) ≡ first ∷ take (length slots - 1) slots
  last_moved first d =
      let some = are.some in
      let last = length slots - 1 in
      let none : drop (suc last) (set slots last first) ≡ [] = drop_all (suc last) (set slots last first) (omega (arith, length-set slots last first)) in
      ap (λ slot. slot ∷ remove (set slots last first) last) (get_or-set_same slots last first d (omega (arith, some)))
      ∙ ap (λ xs. first ∷ (take last (set slots last first) ++ xs)) none
      ∙ ap (λ xs. first ∷ xs) (append-nil (take last (set slots last first)) ∙ take-set slots last first)

  pub new_slots : (old new : List ℕ) (key : GuestRoot) (was first : Slot) → was ≡ get_or slots (length slots - 1) was → KeepsSpace was.space old first.space new → first.key ≡ Some key → All (λ slot. has_key key slot ≡ false) slots
      → AreSlots part most (first ∷ take (length slots - 1) slots)
  new_slots old new key was first read keeps is none = record {
    some = omega arith;
    own = subst (λ n. n ≤ part.spaces) (sym count) are.own;
    once = are.once;
    each = subst (λ n. All (IsSlot part most n) (first ∷ take last slots)) (sym count)
        (All-cons (IsSlot part most (length slots)) first (take last slots) is_slot (All-take (IsSlot part most (length slots)) last slots are.each));
    order = AllPairs-cons ComesBefore first (take last slots) before (pairs_take ComesBefore last slots (omega arith) are.order);
  }
    where
      last : ℕ
      last = length slots - 1

      inside : last < length slots
      inside = let some = are.some in omega (arith, some)

      count : length (first ∷ take last slots) ≡ length slots
      count = let few = length-take-le last slots (omega arith) in let some = are.some in omega (arith, few, some)

      is_slot : IsSlot part most (length slots) first
      is_slot =
          let one = subst (IsSlot part most (length slots)) (sym read) (are.each last was inside) in
          record { part = keeps.part ∙ one.part; most = keeps.most ∙ one.most; index = subst (λ n. n < length slots) (sym keeps.index) one.index }

      before : All (ComesBefore first) (take last slots)
      before k d h =
          let below : k < last = let few = length-take-le last slots (omega arith) in omega (arith, h, few) in
          let few : k < length slots = omega (arith, below) in
          subst (ComesBefore first) (sym (get_or-take last slots k d below)) (record {
            index = λ same. (subst (ComesBefore (get_or slots k d)) (get_or_default slots last d was inside ∙ sym read) (are.order k last d below inside)).index (sym same ∙ keeps.index);
            key = λ other has. ap (λ key. has_key key (get_or slots k d)) (sym (root_same key other (ap (key_is other) (sym is) ∙ has))) ∙ none k d few;
            spare = λ spare. absurd (not_none key first.key is spare);
          })
