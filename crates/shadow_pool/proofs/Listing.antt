-- Which tables have the spaces of a pool: those in use, which come first.
use Rattle.std.proofs.Common.{cond, ◌≡◌, ℕ, zero, suc, ◌+◌, ◌/◌, ◌<◌, ◌≤◌, ◌∙◌, Bool, true, false, List, [], ◌∷◌, Option, Some, None, length, get_or, nat_lt, refl, sym, ap, arith}
use Rattle.std.specs.Prelude.{not}
use Rattle.std.specs.List.{AllPairs, cons_option, position, position_or_len}
use Rattle.std.specs.Option.{is_none}
use Rattle.std.proofs.lemmas.Bool.{ltb-false}
use Rattle.arch_defs.specs.declared.cached.Entry.{Entry}
use Rattle.arch_defs.specs.declared.modes.Access.{Access}
use Rattle.arch_defs.specs.declared.roots.GuestRoot.{GuestRoot}
use Rattle.arch_defs.specs.CachedEntries.{device_by, device_by_entries, entry_at}
use Rattle.arch_defs.specs.Spaces.{Space, front}
use Rattle.shadow_pool.specs.declared.slots.Slot.{Slot}
use Rattle.shadow_pool.specs.Slots.{ComesBefore, is_spare, space_at, space_if, space_of, spaces_in}
use Rattle.shadow_pool.proofs.Entering.{all_spare, few_spaces}
use Rattle.shadow_pool.proofs.Ordering.{pairs_first, pairs_rest}

-- the table of a space's number has it
first_has : (o : Option GuestRoot) (es : List Entry) (rest : List Space) → (o ≡ None → rest ≡ []) → 0 < length (cons_option (space_if o es) rest)
    → space_if o es ≡ Some (space_at (cons_option (space_if o es) rest) 0)
first_has None es rest spare inside = let none : length rest ≡ 0 = ap length (spare refl) in absurd (omega (arith, inside, none))
first_has (Some key) es rest spare inside = refl

later_has : (o : Option GuestRoot) (es : List Entry) (rest : List Space) → (o ≡ None → rest ≡ []) → (i : ℕ) (there : Option Space) → (i < length rest → there ≡ Some (space_at rest i))
    → suc i < length (cons_option (space_if o es) rest) → there ≡ Some (space_at (cons_option (space_if o es) rest) (suc i))
later_has None es rest spare i there has inside = let none : length rest ≡ 0 = ap length (spare refl) in absurd (omega (arith, inside, none))
later_has (Some key) es rest spare i there has inside = has (omega (arith, inside))

pub has_space : (slots : List Slot) (i : ℕ) (d : Slot) → AllPairs ComesBefore slots → i < length (spaces_in slots)
    → space_of (get_or slots i d) ≡ Some (space_at (spaces_in slots) i)
has_space [] i d order inside = absurd (omega (arith, inside))
has_space (slot ∷ slots) zero d order inside = first_has slot.key slot.space.entries (spaces_in slots)
    (λ none. all_spare slots (λ k d h. (pairs_first ComesBefore slot slots order k d h).spare none)) inside
has_space (slot ∷ slots) (suc i) d order inside = later_has slot.key slot.space.entries (spaces_in slots)
    (λ none. all_spare slots (λ k d h. (pairs_first ComesBefore slot slots order k d h).spare none))
    i (space_of (get_or slots i d)) (has_space slots i d (pairs_rest ComesBefore slot slots order)) inside

-- that is, its value of hgatp and its entries
parts : (o : Option GuestRoot) (es : List Entry) (s : Space) → space_if o es ≡ Some s → (o ≡ Some s.key) × (es ≡ s.entries)
parts None es s is = absurd cc
parts (Some key) es s is = let same : record { key = key; entries = es } ≡ s = cc in (ap (λ (s : Space). Some s.key) same, ap (λ (s : Space). s.entries) same)

pub key_is : (slots : List Slot) (i : ℕ) (d : Slot) → AllPairs ComesBefore slots → i < length (spaces_in slots)
    → (get_or slots i d).key ≡ Some (space_at (spaces_in slots) i).key
key_is slots i d order inside = (parts (get_or slots i d).key (get_or slots i d).space.entries (space_at (spaces_in slots) i) (has_space slots i d order inside)).0

pub entries_are : (slots : List Slot) (i : ℕ) (d : Slot) → AllPairs ComesBefore slots → i < length (spaces_in slots)
    → (get_or slots i d).space.entries ≡ (space_at (spaces_in slots) i).entries
entries_are slots i d order inside = (parts (get_or slots i d).key (get_or slots i d).space.entries (space_at (spaces_in slots) i) (has_space slots i d order inside)).1

-- there are as many spaces as tables before the first one that is in no use
first_counts : (o : Option GuestRoot) (es : List Entry) (n : ℕ) (rest : List Space) → (o ≡ None → rest ≡ []) → n ≡ length rest
    → cond (not (is_none o)) (1 + n) 0 ≡ length (cons_option (space_if o es) rest)
first_counts None es n rest spare same = sym (ap length (spare refl))
first_counts (Some key) es n rest spare same = omega (arith, same)

first_spare_is : (slots : List Slot) → AllPairs ComesBefore slots → position_or_len is_spare slots ≡ length (spaces_in slots)
first_spare_is [] order = refl
first_spare_is (slot ∷ slots) order = first_counts slot.key slot.space.entries (position_or_len is_spare slots) (spaces_in slots)
    (λ none. all_spare slots (λ k d h. (pairs_first ComesBefore slot slots order k d h).spare none))
    (first_spare_is slots (pairs_rest ComesBefore slot slots order))

pub used_some : (slots : List Slot) (i : ℕ) → AllPairs ComesBefore slots → position is_spare slots ≡ Some i → i ≡ length (spaces_in slots)
used_some slots i order is = by (nat_lt (position_or_len is_spare slots) (length slots)) is
  where
    by : (b : Bool) → cond b (Some (position_or_len is_spare slots)) None ≡ Some i → i ≡ length (spaces_in slots)
    by true is = let same : position_or_len is_spare slots ≡ i = cc in sym same ∙ first_spare_is slots order
    by false is = absurd cc

pub used_none : (slots : List Slot) → AllPairs ComesBefore slots → position is_spare slots ≡ None → length slots ≡ length (spaces_in slots)
used_none slots order none = by (nat_lt (position_or_len is_spare slots) (length slots)) refl none
  where
    by : (b : Bool) → nat_lt (position_or_len is_spare slots) (length slots) ≡ b → cond b (Some (position_or_len is_spare slots)) None ≡ None
        → length slots ≡ length (spaces_in slots)
    by true below is = absurd cc
    by false above is = let same = first_spare_is slots order in let few = few_spaces slots in
        let high = ltb-false (position_or_len is_spare slots) (length slots) above in omega (arith, same, few, high)

-- the front space is that of the first table, if it is in use
spare_front : (o : Option GuestRoot) (es : List Entry) (rest : List Space) → (o ≡ None → rest ≡ []) → o ≡ None → front (cons_option (space_if o es) rest) ≡ []
spare_front None es rest spare none = ap front (spare refl)
spare_front (Some key) es rest spare none = absurd cc

used_front : (o : Option GuestRoot) (key : GuestRoot) (es : List Entry) (rest : List Space) → o ≡ Some key → front (cons_option (space_if o es) rest) ≡ es
used_front None key es rest some = absurd cc
used_front (Some other) key es rest some = refl

-- so its entries are those of that table
pub entries_spare : (slots : List Slot) (d : Slot) → AllPairs ComesBefore slots → (get_or slots 0 d).key ≡ None → [] ≡ front (spaces_in slots)
entries_spare [] d order none = refl
entries_spare (slot ∷ slots) d order none =
    sym (spare_front slot.key slot.space.entries (spaces_in slots) (λ none. all_spare slots (λ k d h. (pairs_first ComesBefore slot slots order k d h).spare none)) none)

pub entries_used : (slots : List Slot) (d : Slot) (key : GuestRoot) → 1 ≤ length slots → (get_or slots 0 d).key ≡ Some key
    → (get_or slots 0 d).space.entries ≡ front (spaces_in slots)
entries_used [] d key inside some = absurd (omega (arith, inside))
entries_used (slot ∷ slots) d key inside some = sym (used_front slot.key key slot.space.entries (spaces_in slots) some)

pub front_spare : (slots : List Slot) (d : Slot) (mxr : Bool) (address : ℕ) (access : Access) → AllPairs ComesBefore slots → (get_or slots 0 d).key ≡ None
    → device_by_entries (front (spaces_in slots)) mxr address access ≡ false
unfolding device_by_entries
front_spare slots d mxr address access order none = ap (λ entries. device_by mxr access (entry_at (address / 4096) entries)) (sym (entries_spare slots d order none))

pub front_used : (slots : List Slot) (d : Slot) (key : GuestRoot) (mxr : Bool) (address : ℕ) (access : Access) → 1 ≤ length slots → (get_or slots 0 d).key ≡ Some key
    → device_by_entries (get_or slots 0 d).space.entries mxr address access ≡ device_by_entries (front (spaces_in slots)) mxr address access
front_used slots d key mxr address access inside some = ap (λ entries. device_by_entries entries mxr address access) (entries_used slots d key inside some)
