-- The spaces of tables, one of which comes to the front.
use Rattle.std.proofs.Common.{◌≡◌, ℕ, zero, suc, ◌+◌, ◌-◌, ◌<◌, ◌≤◌, ◌⊎◌, inl, inr, true, false, not, List, [], ◌∷◌, ◌++◌, Option, Some, None, length, get_or, take, refl, sym, ap, subst, ◌∙◌, arith, length-take-le}
use Rattle.std.specs.List.{All, AllPairs, cons_option, filter, find, remove}
use Rattle.std.proofs.lemmas.Bool.{both_ways, cases_Bool}
use Rattle.std.proofs.lemmas.List.{get_or_append_left, length_push, take_all, take_more}
use Rattle.std.proofs.lemmas.List.Edits.{length-remove}
use Rattle.std.proofs.lemmas.List.Elements.{All-head, All-tail}
use Rattle.arch_defs.specs.declared.cached.Entry.{Entry}
use Rattle.arch_defs.specs.declared.roots.GuestRoot.{GuestRoot}
use Rattle.arch_defs.specs.Spaces.{Space, entered, found_or_empty, is_for}
use Rattle.shadow_pool.specs.declared.slots.Slot.{Slot}
use Rattle.shadow_pool.specs.Slots.{ComesBefore, has_key, key_is, space_if, spaces_in}
use Rattle.shadow_pool.proofs.Keys.{key_of}
use Rattle.shadow_pool.proofs.Ordering.{pairs_first, pairs_rest}

-- the spaces for other values of hgatp
abbrev others : GuestRoot → List Space → List Space
others key spaces = filter (λ s. not (is_for key s)) spaces

-- what is found in these spaces, and what is left of them
record IsFound (key : GuestRoot) (spaces rest : List Space) (space : Option Space) : Type 0 where
  found : find (is_for key) spaces ≡ space
  left : others key spaces ≡ rest

-- a table that is for another value, or for none
passed : (key : GuestRoot) (o : Option GuestRoot) (es : List Entry) (spaces rest : List Space) (space : Option Space) → key_is key o ≡ false → IsFound key spaces rest space
    → IsFound key (cons_option (space_if o es) spaces) (cons_option (space_if o es) rest) space
passed key None es spaces rest space is found = found
passed key (Some other) es spaces rest space is found = record { found = rw is found.found; left = rw is (ap (λ xs. record { key = other; entries = es } ∷ xs) found.left) }

none_found : (key : GuestRoot) (slots : List Slot) → All (λ slot. has_key key slot ≡ false) slots → IsFound key (spaces_in slots) (spaces_in slots) None
none_found key [] none = record { found = refl; left = refl }
none_found key (slot ∷ slots) none =
    passed key slot.key slot.space.entries (spaces_in slots) (spaces_in slots) None (All-head (λ slot. has_key key slot ≡ false) slot slots none)
    (none_found key slots (All-tail (λ slot. has_key key slot ≡ false) slot slots none))

-- the table that is for it
met : (key : GuestRoot) (o : Option GuestRoot) (es : List Entry) (spaces : List Space) → key_is key o ≡ true → IsFound key spaces spaces None → IsFound key (cons_option (space_if o es) spaces) spaces (space_if o es)
met key None es spaces is none = absurd (both_ways false refl is)
met key (Some other) es spaces is none = record { found = rw is refl; left = rw is none.left }

one_found : (key : GuestRoot) (slots : List Slot) (i : ℕ) (d : Slot) → i < length slots → has_key key (get_or slots i d) ≡ true → AllPairs ComesBefore slots
    → IsFound key (spaces_in slots) (spaces_in (remove slots i)) (space_if (get_or slots i d).key (get_or slots i d).space.entries)
one_found key [] i d inside has order = absurd (omega (arith, inside))
one_found key (slot ∷ slots) zero d inside has order =
    met key slot.key slot.space.entries (spaces_in slots) has (none_found key slots (λ k e few. (pairs_first ComesBefore slot slots order k e few).key key has))
one_found key (slot ∷ slots) (suc i) d inside has order =
    passed key slot.key slot.space.entries (spaces_in slots) (spaces_in (remove slots i)) (space_if (get_or slots i d).key (get_or slots i d).space.entries) (differs (cases_Bool (has_key key slot)))
    (one_found key slots i d (omega (arith, inside)) has (pairs_rest ComesBefore slot slots order))
  where
    differs : (has_key key slot ≡ true) ⊎ (has_key key slot ≡ false) → has_key key slot ≡ false
    differs (inl is) = absurd (both_ways (has_key key (get_or slots i d)) ((pairs_first ComesBefore slot slots order i d (omega (arith, inside))).key key is) has)
    differs (inr is) = is

-- there are no more spaces than tables
pub few_spaces : (slots : List Slot) → length (spaces_in slots) ≤ length slots
few_spaces [] = omega arith
few_spaces (slot ∷ slots) = by slot.key (few_spaces slots)
  where
    by : (o : Option GuestRoot) → length (spaces_in slots) ≤ length slots → length (cons_option (space_if o slot.space.entries) (spaces_in slots)) ≤ suc (length slots)
    by None few = omega (arith, few)
    by (Some key) few = omega (arith, few)

-- a space that is there is entered
pub entered_found : (key : GuestRoot) (slots : List Slot) (i : ℕ) (d : Slot) → i < length slots → has_key key (get_or slots i d) ≡ true → AllPairs ComesBefore slots
    → spaces_in (get_or slots i d ∷ remove slots i) ≡ entered (length slots) key (spaces_in slots)
unfolding entered
entered_found key slots i d inside has order =
    let f = one_found key slots i d inside has order in
    let rest : List Space = spaces_in (remove slots i) in
    let es = (get_or slots i d).space.entries in
    let is = key_of key (get_or slots i d) has in
    let space : Space = record { key = key; entries = es } in
    let few = few_spaces (remove slots i) in
    let count = length-remove slots i inside in
    ap (λ o. cons_option (space_if o es) rest) is
    ∙ sym (ap (λ o. take (length slots) (found_or_empty key o ∷ others key (spaces_in slots))) (f.found ∙ ap (λ o. space_if o es) is)
    ∙ ap (λ xs. take (length slots) (space ∷ xs)) f.left
    ∙ take_all (length slots) (space ∷ rest) (omega (arith, few, count)))

-- tables that are in no use have no spaces
pub all_spare : (slots : List Slot) → All (λ slot. slot.key ≡ None) slots → spaces_in slots ≡ []
all_spare [] none = refl
all_spare (slot ∷ slots) none =
    ap (λ o. cons_option (space_if o slot.space.entries) (spaces_in slots)) (All-head (λ slot. slot.key ≡ None) slot slots none) ∙ all_spare slots (All-tail (λ slot. slot.key ≡ None) slot slots none)

-- without the space of the last table
all_but : (o : Option GuestRoot) (es : List Entry) (n : ℕ) (spaces rest : List Space) → (o ≡ None → (spaces ≡ []) × (rest ≡ [])) → take n spaces ≡ rest
    → take (suc n) (cons_option (space_if o es) spaces) ≡ cons_option (space_if o es) rest
all_but None es n spaces rest none is = ap (take (suc n)) (none refl).0 ∙ sym (none refl).1
all_but (Some key) es n spaces rest none is = ap (λ xs. record { key = key; entries = es } ∷ xs) is

last_dropped : (slots : List Slot) (last : Slot) → AllPairs ComesBefore (slots ++ last ∷ []) → take (length slots) (spaces_in (slots ++ last ∷ [])) ≡ spaces_in slots
last_dropped [] last order = refl
last_dropped (slot ∷ slots) last order =
    all_but slot.key slot.space.entries (length slots) (spaces_in (slots ++ last ∷ [])) (spaces_in slots) spares (last_dropped slots last (pairs_rest ComesBefore slot (slots ++ last ∷ []) order))
  where
    spare : slot.key ≡ None → All (λ slot. slot.key ≡ None) (slots ++ last ∷ [])
    spare none k d h = (pairs_first ComesBefore slot (slots ++ last ∷ []) order k d h).spare none

    spares : slot.key ≡ None → (spaces_in (slots ++ last ∷ []) ≡ []) × (spaces_in slots ≡ [])
    spares none = (
      all_spare (slots ++ last ∷ []) (spare none),
      all_spare slots (λ k d h. subst (λ slot. slot.key ≡ None) (get_or_append_left slots (last ∷ []) d k h) (spare none k d (omega (arith, h, length_push slots last)))),
    )

-- a space that is not there is entered: it has the last table
pub entered_new : (key : GuestRoot) (slots : List Slot) (first : Slot) → 1 ≤ length slots → All (λ slot. has_key key slot ≡ false) slots → AllPairs ComesBefore slots → first.key ≡ Some key → first.space.entries ≡ []
    → spaces_in (first ∷ take (length slots - 1) slots) ≡ entered (length slots) key (spaces_in slots)
unfolding entered
entered_new key slots first some none order is empty =
    let last = length slots - 1 in
    let f = none_found key slots none in
    let before : List Slot = take last slots in
    let space : Space = record { key = key; entries = [] } in
    let count : length before ≡ last = length-take-le last slots (omega arith) in
    let whole : before ++ get_or slots last first ∷ [] ≡ slots = sym (take_more slots last first (omega (arith, some))) ∙ take_all (last + 1) slots (omega (arith, some)) in
    ap (λ o. cons_option (space_if o first.space.entries) (spaces_in before)) is ∙ ap (λ es. record { key = key; entries = es } ∷ spaces_in before) empty
    ∙ sym (ap (λ o. take (length slots) (found_or_empty key o ∷ others key (spaces_in slots))) f.found
    ∙ ap (λ xs. take (length slots) (space ∷ xs)) f.left
    ∙ next (length slots) last (omega (arith, some)) space (spaces_in slots)
    ∙ ap (λ xs. space ∷ xs) (ap (λ n. take n (spaces_in slots)) (sym count) ∙ ap (λ xs. take (length before) (spaces_in xs)) (sym whole)
    ∙ last_dropped before (get_or slots last first) (subst (AllPairs ComesBefore) (sym whole) order)))
  where
    next : (n m : ℕ) → n ≡ suc m → (space : Space) (spaces : List Space) → take n (space ∷ spaces) ≡ space ∷ take m spaces
    next n m is space spaces = ap (λ n. take n (space ∷ spaces)) is
