-- What entering, a fill and a fence leave of a pool's tables.
use Rattle.std.proofs.Common.{◌≡◌, ℕ, zero, suc, ◌+◌, ◌-◌, ◌*◌, ◌<◌, ◌≤◌, true, false, List, [], ◌∷◌, ◌++◌, Some, None, length, get_or, map, set, take, drop, refl, sym, ap, subst, ◌∙◌, arith, length-set, append-nil}
use Rattle.std.specs.List.{filter_map, position, remove}
use Rattle.std.specs.Option.{option_map}
use Rattle.std.proofs.lemmas.List.{drop_all, get_or_default, take_all}
use Rattle.std.proofs.lemmas.List.Edits.{length-remove, map_over_more}
use Rattle.std.proofs.lemmas.List.Quantifiers.{position-Some}
use Rattle.arch_defs.specs.declared.cached.Entry.{Entry}
use Rattle.arch_defs.specs.declared.cached.Fence.{Fence}
use Rattle.arch_defs.specs.declared.roots.GuestRoot.{GuestRoot}
use Rattle.arch_defs.specs.CachedEntries.{filled}
use Rattle.arch_defs.specs.Frames.{Only}
use Rattle.arch_defs.specs.Spaces.{entered, fenced, fenced_space}
use Rattle.arch_defs.proofs.FrameSets.{only_both, only_none}
use Rattle.shadow_space.specs.Shadows.{KeepsSpace, Tidy, root_of}
use Rattle.shadow_pool.specs.declared.slots.Slot.{Slot}
use Rattle.shadow_pool.specs.Slots.{ArePooled, KeepsPool, TidyPool, filled_for, front_root, has_key, most_of, part_of, pool_frames, pool_of, space_of, spaces_in}
use Rattle.shadow_pool.proofs.Entering.{entered_found, entered_new}
use Rattle.shadow_pool.proofs.Filling.{fenced_spaces, filled_spaces, held_spaces, no_position}
use Rattle.shadow_pool.proofs.Fronting.{IsChanged, last_moved, moved_count, moved_slots, new_slots, slots_changed}
use Rattle.shadow_pool.proofs.Ordering.{all_moved}
use Rattle.shadow_pool.proofs.Tidying.{one_only, one_tidy, one_written}

-- a value of hgatp is entered
pub record IsEntered (key : GuestRoot) (slots : List Slot) (old : List ℕ) (after : List Slot) (new : List ℕ) : Type 0 where
  pub has : spaces_in after ≡ entered (length slots) key (spaces_in slots)
  pub changed : IsChanged slots old after new

-- one whose space is there
pub found_entered : (slots after : List Slot) (old : List ℕ) (key : GuestRoot) (i : ℕ) → TidyPool (pool_of slots) old → position (has_key key) slots ≡ Some i
    → ((d : Slot) → after ≡ get_or slots i d ∷ remove slots i) → IsEntered key slots old after old
found_entered [] after old key i tidy at moved = let some = tidy.slots.some in absurd (omega (arith, some))
found_entered (slot ∷ others) after old key i tidy at moved =
    let slots : List Slot = slot ∷ others in
    let are = tidy.slots in
    let there = position-Some (has_key key) slots i slot at in
    let inside = there.0 in
    record {
      has = ap spaces_in (moved slot) ∙ entered_found key slots i slot inside there.1 are.order;
      changed = subst (λ after. IsChanged slots old after old) (sym (moved slot))
          (slots_changed slots (get_or slots i slot ∷ remove slots i) old old (moved_slots (part_of slots) (most_of slots) slots are key i slot inside there.1)
          (moved_count (part_of slots) (most_of slots) slots are i slot inside) (all_moved (λ slot. Tidy slot.space old) slots i slot inside tidy.tables) (only_none (pool_frames (pool_of slots)) old));
    }

-- and one whose space is new
pub new_entered : (slots after : List Slot) (old new : List ℕ) (key : GuestRoot) (was first : Slot) → TidyPool (pool_of slots) old → position (has_key key) slots ≡ None
    → was ≡ get_or slots (length slots - 1) was → first.key ≡ Some key → first.space.entries ≡ [] → KeepsSpace (get_or slots (length slots - 1) was).space old first.space new → Tidy first.space new
    → ((d : Slot) → after ≡ get_or (set slots (length slots - 1) first) (length slots - 1) d ∷ remove (set slots (length slots - 1) first) (length slots - 1))
    → IsEntered key slots old after new
new_entered slots after old new key was first tidy no_one read is empty kept first_tidy moved =
    let are = tidy.slots in
    let keeps = subst (λ slot. KeepsSpace slot.space old first.space new) (sym read) kept in
    let last = length slots - 1 in
    let some = are.some in
    let inside : last < length slots = omega (arith, some) in
    let inside' : last < length (set slots last first) = omega (arith, some, length-set slots last first) in
    let none = no_position (has_key key) slots no_one in
    let same = last_moved (part_of slots) (most_of slots) slots are first was in
    let made : after ≡ first ∷ take last slots = moved was ∙ same in
    record {
      has = ap spaces_in made ∙ entered_new key slots first some none are.order is empty;
      changed = subst (λ after. IsChanged slots old after new) (sym made)
          (slots_changed slots (first ∷ take last slots) old new (new_slots (part_of slots) (most_of slots) slots are old new key was first read keeps is none)
          (ap length (sym same) ∙ remove_count (set slots last first) last was inside' ∙ length-set slots last first)
          (subst (λ slots. (k : ℕ) (d : Slot) → k < length slots → Tidy (get_or slots k d).space new) same
          (all_moved (λ slot. Tidy slot.space new) (set slots last first) last was inside' (one_tidy (part_of slots) (most_of slots) slots are old new last was first inside read tidy.tables first_tidy keeps.only)))
          (one_only (part_of slots) (most_of slots) slots are old new last was inside read keeps.only));
    }
  where
    remove_count : (slots : List Slot) (i : ℕ) (d : Slot) → i < length slots → length (get_or slots i d ∷ remove slots i) ≡ length slots
    remove_count slots i d inside = let count = length-remove slots i inside in omega (arith, count)

-- one table is written
one_changed : (slots : List Slot) (old new : List ℕ) (i : ℕ) (was after : Slot) → TidyPool (pool_of slots) old → i < length slots → was ≡ get_or slots i was → after.key ≡ was.key
    → KeepsSpace was.space old after.space new → Tidy after.space new → IsChanged slots old (set slots i after) new
one_changed slots old new i was after tidy inside read key keeps is_tidy =
    let are = tidy.slots in
    slots_changed slots (set slots i after) old new (one_written (part_of slots) (most_of slots) slots are old new i was after inside read key keeps) (length-set slots i after)
    (one_tidy (part_of slots) (most_of slots) slots are old new i was after inside read tidy.tables is_tidy keeps.only)
    (one_only (part_of slots) (most_of slots) slots are old new i was inside read keeps.only)

-- its frames stay, so the root of the first does
root_kept : (slots : List Slot) (old new : List ℕ) (i : ℕ) (was after : Slot) → i < length slots → was ≡ get_or slots i was → KeepsSpace was.space old after.space new → front_root (set slots i after) ≡ front_root slots
root_kept [] old new i was after inside read keeps = absurd (omega (arith, inside))
root_kept (slot ∷ slots) old new zero was after inside read keeps =
    ap (λ part. part.first_root + 4 * (1 + after.space.index)) keeps.part ∙ ap (λ index. was.space.part.first_root + 4 * (1 + index)) keeps.index ∙ ap (λ slot. root_of slot.space) read
root_kept (slot ∷ slots) old new (suc i) was after inside read keeps = refl

-- an entry of the space for a value of hgatp is filled
module _ (slots : List Slot) (old new : List ℕ) (key : GuestRoot) (i : ℕ) (was after : Slot) (entry : Entry) (tidy : TidyPool (pool_of slots) old)
    (at : position (has_key key) slots ≡ Some i) (read : was ≡ get_or slots i was) (same_key : after.key ≡ (get_or slots i was).key)
    (made : after.space.entries ≡ filled (get_or slots i was).space.most (get_or slots i was).space.entries entry)
    (kept : KeepsSpace (get_or slots i was).space old after.space new) (is_tidy : Tidy after.space new) where
  there : (i < length slots) × (has_key key (get_or slots i was) ≡ true) × ((k : ℕ) → k < i → has_key key (get_or slots k was) ≡ false)
  there = position-Some (has_key key) slots i was at

  pub filled_has : spaces_in (set slots i after) ≡ filled_for key (most_of slots) (spaces_in slots) entry
  filled_has =
      let own = tidy.slots.each i was there.0 in
      filled_spaces key (most_of slots) slots i was after entry there.0 there.1 there.2 same_key
      (made ∙ ap (λ most. filled most (get_or slots i was).space.entries entry) own.most)

  pub filled_changes : IsChanged slots old (set slots i after) new
  filled_changes =
      one_changed slots old new i was after tidy there.0 read (same_key ∙ ap (λ slot. slot.key) (sym read))
      (subst (λ slot. KeepsSpace slot.space old after.space new) (sym read) kept) is_tidy

  pub filled_root : front_root (set slots i after) ≡ front_root slots
  filled_root = root_kept slots old new i was after there.0 read (subst (λ slot. KeepsSpace slot.space old after.space new) (sym read) kept)

-- that many tables have been fenced
pub record IsFencing (fence : Fence) (slots : List Slot) (old : List ℕ) (i : ℕ) (after : List Slot) (new : List ℕ) : Type 0 where
  pub has : map space_of after ≡ map (option_map (fenced_space fence)) (take i (map space_of slots)) ++ drop i (map space_of slots)
  pub root : front_root after ≡ front_root slots
  pub changed : IsChanged slots old after new

pub none_fenced : (fence : Fence) (slots : List Slot) (memory : List ℕ) → TidyPool (pool_of slots) memory → IsFencing fence slots memory 0 slots memory
none_fenced fence slots memory tidy =
    record { has = refl; root = refl; changed = slots_changed slots slots memory memory tidy.slots refl tidy.tables (only_none (pool_frames (pool_of slots)) memory) }

spaces_length : (slots : List Slot) → length (map space_of slots) ≡ length slots
spaces_length [] = refl
spaces_length (slot ∷ slots) = ap suc (spaces_length slots)

space_set : (slots : List Slot) (i : ℕ) (slot : Slot) → map space_of (set slots i slot) ≡ set (map space_of slots) i (space_of slot)
space_set [] i slot = refl
space_set (x ∷ slots) zero slot = refl
space_set (x ∷ slots) (suc i) slot = ap (λ xs. space_of x ∷ xs) (space_set slots i slot)

space_read : (slots : List Slot) (i : ℕ) (was : Slot) → was ≡ get_or slots i was → space_of was ≡ get_or (map space_of slots) i (space_of was)
space_read slots i was read = ap space_of read ∙ by slots i
  where
    by : (xs : List Slot) (i : ℕ) → space_of (get_or xs i was) ≡ get_or (map space_of xs) i (space_of was)
    by [] i = refl
    by (x ∷ xs) zero = refl
    by (x ∷ xs) (suc i) = by xs i

both_changed : (slots between after : List Slot) (old memory new : List ℕ) → IsChanged slots old between memory → IsChanged between memory after new → IsChanged slots old after new
both_changed slots between after old memory new first second =
    let a = first.keeps in
    let b = second.keeps in
    record {
      keeps = record {
        part = b.part ∙ a.part;
        most = b.most ∙ a.most;
        room = b.room ∙ a.room;
        only = only_both (pool_frames (pool_of slots)) old memory new a.only
            (subst (λ part. Only (pool_frames (record { part = part; most = most_of slots; slots = slots })) memory new) a.part (more a.room b.only));
      };
      tidy = second.tidy;
    }
  where
    more : length between ≡ length slots → Only (pool_frames (pool_of between)) memory new → Only (pool_frames (record { part = part_of between; most = most_of slots; slots = slots })) memory new
    more count only = rw (← count) only

pub one_fenced : (fence : Fence) (slots between : List Slot) (old memory new : List ℕ) (i : ℕ) (was after : Slot) → IsFencing fence slots old i between memory → i < length slots
    → was ≡ get_or between i was → after.key ≡ (get_or between i was).key → space_of after ≡ option_map (fenced_space fence) (space_of (get_or between i was))
    → KeepsSpace (get_or between i was).space memory after.space new → Tidy after.space new → IsFencing fence slots old (i + 1) (set between i after) new
one_fenced fence slots between old memory new i was after f inside read same_key made kept is_tidy =
    let key = same_key ∙ ap (λ slot. slot.key) (sym read) in
    let is = made ∙ ap (λ slot. option_map (fenced_space fence) (space_of slot)) (sym read) in
    let keeps = subst (λ slot. KeepsSpace slot.space memory after.space new) (sym read) kept in
    let count = f.changed.keeps.room in
    let inside' : i < length between = omega (arith, inside, count) in
    record {
      root = root_kept between memory new i was after inside' read keeps ∙ f.root;
      has = space_set between i after ∙ ap (set (map space_of between) i) is
          ∙ map_over_more (option_map (fenced_space fence)) (map space_of slots) (map space_of between) i (space_of was) (omega (arith, inside, spaces_length slots)) f.has (space_read between i was read);
      changed = both_changed slots between (set between i after) old memory new f.changed (one_changed between memory new i was after f.changed.tidy inside' read key keeps is_tidy);
    }

pub all_fenced : (fence : Fence) (slots after : List Slot) (old new : List ℕ) (i : ℕ) → length slots ≤ i → IsFencing fence slots old i after new → spaces_in after ≡ fenced fence (spaces_in slots)
all_fenced fence slots after old new i all f =
    held_spaces after
    ∙ ap (filter_map (λ o. o)) (f.has ∙ ap (λ xs. map (option_map (fenced_space fence)) (take i (map space_of slots)) ++ xs) (drop_all i (map space_of slots) few)
    ∙ append-nil (map (option_map (fenced_space fence)) (take i (map space_of slots))) ∙ ap (map (option_map (fenced_space fence))) (take_all i (map space_of slots) few))
    ∙ fenced_spaces fence (map space_of slots)
    ∙ ap (fenced fence) (sym (held_spaces slots))
  where
    few : length (map space_of slots) ≤ i
    few = omega (arith, all, spaces_length slots)
