-- The spaces of tables, one of which is filled, and after a fence.
use Rattle.std.proofs.Common.{◌≡◌, ℕ, zero, suc, ◌<◌, ◌≤◌, ◌⊎◌, inl, inr, true, false, Bool, List, [], ◌∷◌, Option, Some, None, length, get_or, map, set, refl, sym, ap, ◌∙◌, arith}
use Rattle.std.specs.List.{All, cons_option, filter_map, position, position_or_len}
use Rattle.std.specs.Option.{option_map}
use Rattle.std.proofs.lemmas.Bool.{cases_Bool, lt-ltb}
use Rattle.arch_defs.specs.declared.cached.Entry.{Entry}
use Rattle.arch_defs.specs.declared.cached.Fence.{Fence}
use Rattle.arch_defs.specs.declared.roots.GuestRoot.{GuestRoot}
use Rattle.arch_defs.specs.CachedEntries.{filled}
use Rattle.arch_defs.specs.Roots.{is_root}
use Rattle.arch_defs.specs.Spaces.{Space, entered, fenced, fenced_space}
use Rattle.arch_defs.proofs.SameRoots.{root_is}
use Rattle.machine_defs.specs.Fills.{filled_front}
use Rattle.instruction_laws.specs.FrontSpaces.{FrontIs}
use Rattle.instruction_laws.proofs.FrontSpaces.{in_front}
use Rattle.shadow_pool.specs.declared.slots.Slot.{Slot}
use Rattle.shadow_pool.specs.Slots.{HasSpaceFor, filled_for, has_key, key_is, space_if, space_of, spaces_in}
use Rattle.shadow_pool.proofs.Keys.{not_none}

-- where no table has a value of hgatp
module _ {X : Type 0} (p : X → Bool) where
  early : (xs : List X) (k : ℕ) (d : X) → k < length xs → p (get_or xs k d) ≡ true → position_or_len p xs ≤ k
  early [] k d h is = absurd (omega (arith, h))
  early (x ∷ xs) zero d h is = rw is (omega arith)
  early (x ∷ xs) (suc k) d h is = by (cases_Bool (p x)) (early xs k d (omega (arith, h)) is)
    where
      by : (p x ≡ true) ⊎ (p x ≡ false) → position_or_len p xs ≤ k → position_or_len p (x ∷ xs) ≤ suc k
      by (inl here) later = rw here (omega arith)
      by (inr after) later = rw after (omega (arith, later))

  pub no_position : (xs : List X) → position p xs ≡ None → All (λ x. p x ≡ false) xs
  no_position xs none k d h = by (cases_Bool (p (get_or xs k d)))
    where
      by : (p (get_or xs k d) ≡ true) ⊎ (p (get_or xs k d) ≡ false) → p (get_or xs k d) ≡ false
      by (inl is) =
          let first = early xs k d h is in
          let there : position p xs ≡ Some (position_or_len p xs) = rw (lt-ltb (position_or_len p xs) (length xs) (omega (arith, first, h))) refl in
          absurd (not_none (position_or_len p xs) (position p xs) there none)
      by (inr is) = is

-- the first table for a value of hgatp is filled
filled_here : (key : GuestRoot) (most : ℕ) (o : Option GuestRoot) (es : List Entry) (entry : Entry) (rest : List Space) → key_is key o ≡ true
    → cons_option (space_if o (filled most es entry)) rest ≡ filled_for key most (cons_option (space_if o es) rest) entry
filled_here key most None es entry rest is = absurd cc
filled_here key most (Some other) es entry rest is = let same : is_root other key ≡ true = is in rw same refl

filled_later : (key : GuestRoot) (most : ℕ) (o : Option GuestRoot) (es : List Entry) (entry : Entry) (rest : List Space) → key_is key o ≡ false
    → cons_option (space_if o es) (filled_for key most rest entry) ≡ filled_for key most (cons_option (space_if o es) rest) entry
filled_later key most None es entry rest is = refl
filled_later key most (Some other) es entry rest is = let differ : is_root other key ≡ false = is in rw differ refl

pub filled_spaces : (key : GuestRoot) (most : ℕ) (slots : List Slot) (i : ℕ) (d after : Slot) (entry : Entry) → i < length slots
    → has_key key (get_or slots i d) ≡ true → ((k : ℕ) → k < i → has_key key (get_or slots k d) ≡ false) → after.key ≡ (get_or slots i d).key
    → after.space.entries ≡ filled most (get_or slots i d).space.entries entry → spaces_in (set slots i after) ≡ filled_for key most (spaces_in slots) entry
filled_spaces key most [] i d after entry inside is before same made = absurd (omega (arith, inside))
filled_spaces key most (slot ∷ slots) zero d after entry inside is before same made =
    ap (λ o. cons_option (space_if o after.space.entries) (spaces_in slots)) same
    ∙ ap (λ es. cons_option (space_if slot.key es) (spaces_in slots)) made
    ∙ filled_here key most slot.key slot.space.entries entry (spaces_in slots) is
filled_spaces key most (slot ∷ slots) (suc i) d after entry inside is before same made =
    ap (cons_option (space_of slot))
    (filled_spaces key most slots i d after entry (omega (arith, inside)) is (λ k less. before (suc k) (omega (arith, less))) same made)
    ∙ filled_later key most slot.key slot.space.entries entry (spaces_in slots) (before 0 (omega arith))

-- where no table is for it, no space is
pub none_held : (key : GuestRoot) (slots : List Slot) → ((k : ℕ) (d : Slot) → k < length slots → has_key key (get_or slots k d) ≡ false)
    → HasSpaceFor key (spaces_in slots) → ⊥
none_held key [] none held = held
none_held key (slot ∷ slots) none held =
    by slot.key (none 0 slot (omega arith)) (none_held key slots (λ k d inside. none (suc k) d (omega (arith, inside)))) held
  where
    by : (o : Option GuestRoot) → key_is key o ≡ false → (HasSpaceFor key (spaces_in slots) → ⊥) → HasSpaceFor key (cons_option (space_if o slot.space.entries) (spaces_in slots)) → ⊥
    by None differ later held = later held
    by (Some other) differ later (inl is) = let same : is_root other key ≡ true = is in let not_same : is_root other key ≡ false = differ in absurd cc
    by (Some other) differ later (inr held) = later held

-- filled into the front space, where that is the one
pub filled_in_front : (key : GuestRoot) (most : ℕ) (spaces : List Space) (entry : Entry) → FrontIs key spaces → filled_for key most spaces entry ≡ filled_front most spaces entry
filled_in_front key most [] entry front = refl
filled_in_front key most (s ∷ ss) entry front = let same : is_root s.key key ≡ true = ap (λ k. is_root k key) front ∙ root_is key in rw same refl

pub front_held : (key : GuestRoot) (spaces : List Space) → FrontIs key spaces → HasSpaceFor key spaces
front_held key [] front = front
front_held key (s ∷ ss) front = inl (ap (λ k. is_root k key) front ∙ root_is key)

-- so the space that was entered is one
pub entered_held : (most : ℕ) (key : GuestRoot) (spaces after : List Space) → 1 ≤ most → after ≡ entered most key spaces → HasSpaceFor key after
entered_held most key spaces after some is = rw is (front_held key (entered most key spaces) (in_front most key spaces some))

-- all tables after a fence
pub held_spaces : (slots : List Slot) → spaces_in slots ≡ filter_map (λ o. o) (map space_of slots)
held_spaces [] = refl
held_spaces (slot ∷ slots) = ap (cons_option (space_of slot)) (held_spaces slots)

fenced_if : (fence : Fence) (o : Option Space) (after rest : List Space) → after ≡ map (fenced_space fence) rest → cons_option (option_map (fenced_space fence) o) after ≡ map (fenced_space fence) (cons_option o rest)
fenced_if fence None after rest is = is
fenced_if fence (Some space) after rest is = ap (λ xs. fenced_space fence space ∷ xs) is

pub fenced_spaces : (fence : Fence) (spaces : List (Option Space)) → filter_map (λ o. o) (map (option_map (fenced_space fence)) spaces) ≡ fenced fence (filter_map (λ o. o) spaces)
unfolding fenced
fenced_spaces fence [] = refl
fenced_spaces fence (o ∷ spaces) = fenced_if fence o (filter_map (λ o. o) (map (option_map (fenced_space fence)) spaces)) (filter_map (λ o. o) spaces) (fenced_spaces fence spaces)
