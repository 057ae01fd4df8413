-- All tables are folded anew for a part with other blocks.
use Rattle.std.proofs.Common.{◌≡◌, ◌≢◌, ℕ, ◌+◌, ◌*◌, ◌<◌, ◌≤◌, ◌⊎◌, inl, inr, List, [], ◌∷◌, ◌++◌, length, get_or, set, take, drop, map, refl, sym, ap, subst, ◌∙◌, arith, length-set}
use Rattle.std.specs.List.{AllPairs, cons_option}
use Rattle.std.proofs.lemmas.Bool.{cases_eq}
use Rattle.std.proofs.lemmas.List.{append-nil, drop_all, get_or-map, get_or-set_other, get_or-set_same, get_or_default, length-map, take_all}
use Rattle.std.proofs.lemmas.List.Edits.{map_over_more}
use Rattle.std.proofs.lemmas.List.Elements.{All-map}
use Rattle.arch_defs.specs.Frames.{Apart, Only}
use Rattle.arch_defs.specs.Layouts.{Layout, NamesEachOnce, space_frames}
use Rattle.arch_defs.proofs.FrameSets.{kept, only_both, only_more, only_none}
use Rattle.shadow_space.specs.Moves.{IsMovedPart}
use Rattle.shadow_space.specs.Shadows.{Tidy, own_frames}
use Rattle.shadow_space.proofs.Tidying.{lasts}
use Rattle.shadow_pool.specs.declared.slots.Slot.{Slot}
use Rattle.shadow_pool.specs.Moves.{IsMovedPool, pool_in_part, slot_in_part}
use Rattle.shadow_pool.specs.Slots.{AreSlots, AreTidy, ComesBefore, FoldedPool, IsSlot, TidyPool, front_root, most_of, part_of, pool_frames, pool_of, space_of, spaces_in}
use Rattle.shadow_pool.proofs.Tidying.{frames_apart, frames_within, pool_folded}

-- the first i tables have the other part, and each has the frames that it had
pub record IsMoving (part : Layout) (slots : List Slot) (old : List ℕ) (i : ℕ) (between : List Slot) (memory : List ℕ) : Type 0 where
  pub slots_are : between ≡ map (slot_in_part part) (take i slots) ++ drop i slots
  pub count : length between ≡ length slots
  pub behind : (k : ℕ) (d : Slot) → i ≤ k → k < length slots → get_or between k d ≡ get_or slots k d
  pub frames : (k : ℕ) (d : Slot) → k < length slots → own_frames (get_or between k d).space ≡ own_frames (get_or slots k d).space
  pub tidy : AreTidy between memory
  pub only : Only (pool_frames (pool_of slots)) old memory

-- a moved space has the frames that it had
frames_stay : (old new : Layout) (index : ℕ) → IsMovedPart old new → space_frames new index ≡ space_frames old index
frames_stay old new index moved = ap (λ part. space_frames part index) moved.others

module _ (part : Layout) (slots : List Slot) (old : List ℕ) (tidy : TidyPool (pool_of slots) old) (moved : IsMovedPart (part_of slots) part) where
  pub moves_none : IsMoving part slots old 0 slots old
  moves_none = record {
    slots_are = refl;
    count = refl;
    behind = λ k d from h. refl;
    frames = λ k d h. refl;
    tidy = tidy.tables;
    only = only_none (pool_frames (pool_of slots)) old;
  }

  module _ (i : ℕ) (between : List Slot) (memory : List ℕ) (so : IsMoving part slots old i between memory) (inside : i < length slots) (d : Slot) where
    inside' : i < length between
    inside' = omega (arith, inside, so.count)

    abbrev was : Slot
    was = get_or between i d

    read : was ≡ get_or between i was
    read = get_or_default between i d was inside'

    -- the next table
    was_is : was ≡ get_or slots i was
    was_is = read ∙ so.behind i was (omega arith) inside

    own : was.space.part ≡ part_of slots
    own = ap (λ slot. slot.space.part) was_is ∙ (tidy.slots.each i was inside).part

    was_moved : IsMovedPart was.space.part part
    was_moved = subst (λ layout. IsMovedPart layout part) (sym own) moved

    module _ (next : Slot) (new : List ℕ) (slot_is : next ≡ slot_in_part part was) (only : Only (own_frames was.space) memory new) (is_tidy : Tidy next.space new) where
      abbrev after : List Slot
      after = set between i next

      slot_frames : own_frames next.space ≡ own_frames was.space
      slot_frames = ap (λ slot. own_frames slot.space) slot_is ∙ frames_stay was.space.part part was.space.index was_moved

      few : (k : ℕ) → k < length after → k < length slots
      few k h = omega (arith, h, length-set between i next, so.count)

      own_were : own_frames was.space ≡ own_frames (get_or slots i was).space
      own_were = ap (λ slot. own_frames slot.space) was_is

      tidy_after : AreTidy after new
      tidy_after k d h = by (cases_eq k i)
        where
          by : (k ≡ i) ⊎ (k ≢ i) → Tidy (get_or after k d).space new
          by (inl same) = subst (λ slot. Tidy slot.space new) (sym (ap (λ k. get_or after k d) same ∙ get_or-set_same between i next d inside')) is_tidy
          by (inr other) =
              let apart = subst (λ frames. Apart frames (own_frames was.space)) (sym (so.frames k was (few k h)))
              (subst (Apart (own_frames (get_or slots k was).space)) (sym own_were) (frames_apart (part_of slots) (most_of slots) slots tidy.slots k i was (few k h) inside other)) in
              subst (λ slot. Tidy slot.space new) (sym (get_or-set_other between i k next d other ∙ get_or_default between k d was (omega (arith, few k h, so.count))))
              (lasts (get_or between k was).space memory new (kept (own_frames (get_or between k was).space) (own_frames was.space) memory new apart only) (so.tidy k was (omega (arith, few k h, so.count))))

      only_after : Only (pool_frames (pool_of slots)) memory new
      only_after =
          only_more (own_frames (get_or slots i was).space) (pool_frames (pool_of slots)) memory new (frames_within (part_of slots) (most_of slots) slots tidy.slots i was inside)
          (subst (λ frames. Only frames memory new) own_were only)

      pub moves_next : IsMoving part slots old (i + 1) after new
      moves_next = record {
        slots_are = ap (set between i) slot_is ∙ map_over_more (slot_in_part part) slots between i was inside so.slots_are read;
        count = length-set between i next ∙ so.count;
        behind = λ k d from h. get_or-set_other between i k next d (λ same. omega (arith, same, from)) ∙ so.behind k d (omega (arith, from)) h;
        frames = λ k d h. frames_after k d h (cases_eq k i);
        tidy = tidy_after;
        only = only_both (pool_frames (pool_of slots)) old memory new so.only only_after;
      }
        where
          frames_after : (k : ℕ) (d : Slot) → k < length slots → (k ≡ i) ⊎ (k ≢ i) → own_frames (get_or after k d).space ≡ own_frames (get_or slots k d).space
          frames_after k d h (inl same) =
              ap (λ k. own_frames (get_or after k d).space) same ∙ ap (λ slot. own_frames slot.space) (get_or-set_same between i next d inside') ∙ slot_frames ∙ own_were
              ∙ ap (λ slot. own_frames slot.space) (get_or_default slots i was d inside) ∙ ap (λ k. own_frames (get_or slots k d).space) (sym same)
          frames_after k d h (inr other) = ap (λ slot. own_frames slot.space) (get_or-set_other between i k next d other) ∙ so.frames k d h

-- in the end all have it
moves_all : (part : Layout) (slots : List Slot) (old : List ℕ) (i : ℕ) (between : List Slot) (memory : List ℕ) → IsMoving part slots old i between memory → length slots ≤ i
    → between ≡ map (slot_in_part part) slots
moves_all part slots old i between memory so all =
    so.slots_are ∙ ap (λ xs. map (slot_in_part part) (take i slots) ++ xs) (drop_all i slots all) ∙ append-nil (map (slot_in_part part) (take i slots))
    ∙ ap (map (slot_in_part part)) (take_all i slots all)

-- the tables of a pool in another part
pool_is : (part : Layout) (slots : List Slot) → 1 ≤ length slots → pool_of (map (slot_in_part part) slots) ≡ pool_in_part part (pool_of slots)
pool_is part [] some = absurd (omega (arith, some))
pool_is part (slot ∷ slots) some = refl

spaces_stay : (part : Layout) (slots : List Slot) → spaces_in (map (slot_in_part part) slots) ≡ spaces_in slots
spaces_stay part [] = refl
spaces_stay part (slot ∷ slots) = ap (cons_option (space_of slot)) (spaces_stay part slots)

root_stays : (part : Layout) (slots : List Slot) → IsMovedPart (part_of slots) part → front_root (map (slot_in_part part) slots) ≡ front_root slots
root_stays part [] moved = refl
root_stays part (slot ∷ slots) moved = ap (λ layout. layout.first_root + 4 * (1 + slot.space.index)) moved.others

module _ (part : Layout) (slots : List Slot) (are : AreSlots (part_of slots) (most_of slots) slots) (moved : IsMovedPart (part_of slots) part) (once : NamesEachOnce part) where
  is_slot : (k : ℕ) (d : Slot) → k < length slots → IsSlot part (most_of slots) (length (map (slot_in_part part) slots)) (slot_in_part part (get_or slots k d))
  is_slot k d h =
      let was = are.each k d h in
      record { part = refl; most = was.most; index = subst (λ n. (get_or slots k d).space.index < n) (sym (length-map slots (slot_in_part part))) was.index }

  in_order : AllPairs ComesBefore (map (slot_in_part part) slots)
  in_order j k d before h =
      let few : k < length slots = omega (arith, h, length-map slots (slot_in_part part)) in
      let was = are.order j k d before few in
      subst (λ slot. ComesBefore slot (get_or (map (slot_in_part part) slots) k d)) (sym (get_or-map (slot_in_part part) slots j d d (omega (arith, before, few))))
      (subst (ComesBefore (slot_in_part part (get_or slots j d))) (sym (get_or-map (slot_in_part part) slots k d d few)) (record { index = was.index; key = was.key; spare = was.spare }))

  slots_moved : AreSlots part (most_of slots) (map (slot_in_part part) slots)
  slots_moved =
      let own = are.own in
      record {
        some = subst (λ n. 1 ≤ n) (sym (length-map slots (slot_in_part part))) are.some;
        own = omega (arith, length-map slots (slot_in_part part), own, ap (λ layout. layout.spaces) moved.others);
        once = once;
        each = All-map (IsSlot part (most_of slots) (length (map (slot_in_part part) slots))) (slot_in_part part) slots is_slot;
        order = in_order;
      }

-- the pool that all moved tables are
pub record HasMoved (part : Layout) (slots after : List Slot) (memory : List ℕ) : Type 0 where
  pub moved : IsMovedPool part (pool_of slots) (pool_of after)
  pub folded : FoldedPool (pool_of after) memory

pub has_moved : (part : Layout) (slots : List Slot) (old : List ℕ) (i : ℕ) (after : List Slot) (memory : List ℕ) → TidyPool (pool_of slots) old → IsMovedPart (part_of slots) part → NamesEachOnce part
    → IsMoving part slots old i after memory → length slots ≤ i → HasMoved part slots after memory
has_moved part slots old i after memory tidy moved once so all = record {
  moved = record { pool = pool; spaces = ap spaces_in is ∙ spaces_stay part slots; root = ap front_root is ∙ root_stays part slots moved };
  folded = pool_folded after memory
      (subst (λ pool. TidyPool pool memory) (sym pool) (record { slots = slots_moved part slots tidy.slots moved once; tables = subst (λ after. AreTidy after memory) is so.tidy }));
}
  where
    is : after ≡ map (slot_in_part part) slots
    is = moves_all part slots old i after memory so all

    pool : pool_of after ≡ pool_in_part part (pool_of slots)
    pool = ap pool_of is ∙ pool_is part slots tidy.slots.some
