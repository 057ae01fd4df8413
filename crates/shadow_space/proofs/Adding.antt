-- A tree with one more table.
use Rattle.std.proofs.Common.{◌≡◌, ◌≢◌, ℕ, zero, suc, ◌+◌, ◌*◌, ◌<◌, ◌⊎◌, inl, inr, Some, None, refl, sym, ap, subst, ◌∙◌, arith}
use Rattle.shadow_space.specs.declared.writing.Tables.{Tables}
use Rattle.shadow_space.specs.Trees.{Content, Free, Table, IsOwn, IsTree, Says, Tree, entry_of, pointer_of, slots, top}
use Rattle.table_words.specs.Entries.{pointer_word}
use Rattle.shadow_space.proofs.Slots.{other_slots, same_place}
use Rattle.table_words.proofs.Words.{same_or}

pub same_pair : (h k h' k' : ℕ) → ((h' ≡ h) × (k' ≡ k)) ⊎ ((h' ≡ h) × (k' ≡ k) → ⊥)
same_pair h k h' k' = by (same_or h' h) (same_or k' k)
  where
    by : (h' ≡ h) ⊎ (h' ≢ h) → (k' ≡ k) ⊎ (k' ≢ k) → ((h' ≡ h) × (k' ≡ k)) ⊎ ((h' ≡ h) × (k' ≡ k) → ⊥)
    by (inl a) (inl b) = inl (a, b)
    by (inr a) b = inr (λ e. a e.0)
    by (inl a) (inr b) = inr (λ e. b e.1)

-- the second tree is the first with a table in a frame
pub record IsAdded (tree tree' : Tree) (f h k : ℕ) : Type 0 where
  pub content : tree'.content f ≡ Table h k
  pub contents : (x : ℕ) → x ≢ f → tree'.content x ≡ tree.content x
  pub place : tree'.place h k ≡ Some f
  pub places : (h' k' : ℕ) → ((h' ≡ h) × (k' ≡ k) → ⊥) → tree'.place h' k' ≡ tree.place h' k'

-- a table below a level has as many entries as all but the root
pub low_slots : (tables : Tables) (tree : Tree) (x h k : ℕ) → IsTree tables tree → tree.content x ≡ Table h k → h < top → slots tables x ≡ 512
low_slots tables tree x h k sound holds low = other_slots tables x other
  where
    other : x ≢ tables.root
    other is =
        let at_top : Table top 0 ≡ Table h k = sym sound.root ∙ ap tree.content (sym is) ∙ holds in
        let e : top ≡ h = cc in omega arith

-- a table is an entry of one table
pub one_slot : (tables : Tables) (tree : Tree) (x y h t t' s s' : ℕ) → IsTree tables tree → tree.content x ≡ Table (suc h) t → tree.content y ≡ Table (suc h) t'
    → s < slots tables x → s' < slots tables y → 512 * t + s ≡ 512 * t' + s' → (x ≡ y) × (s ≡ s')
one_slot tables tree x y h t t' s s' sound holds holds' small small' same = by (sound.proper x (suc h) t holds) (sound.proper y (suc h) t' holds')
  where
    from : t ≡ t' → (x ≡ y) × (s ≡ s')
    from e =
        let a = sound.back x (suc h) t holds in
        let b = sound.back y (suc h) t' holds' in
        let is : x ≡ y = cc in (is, omega arith)

    by : (suc h < top) ⊎ ((suc h ≡ top) × (t ≡ 0)) → (suc h < top) ⊎ ((suc h ≡ top) × (t' ≡ 0)) → (x ≡ y) × (s ≡ s')
    by (inl low) way =
        let first = low_slots tables tree x (suc h) t sound holds low in
        let second = low_slots tables tree y (suc h) t' sound holds' low in
        let a : s < 512 = omega (arith, first, small) in
        let b : s' < 512 = omega (arith, second, small') in
        from (omega (arith, same, a, b))
    by (inr at_top) (inl low) = absurd (omega (arith, at_top.0, low))
    by (inr at_top) (inr at_top') = from (at_top.1 ∙ sym at_top'.1)

module _ (tables : Tables) (tree tree' : Tree) (f h k : ℕ) (sound : IsTree tables tree) (added : IsAdded tree tree' f h k) (free : tree.content f ≡ Free) (none : tree.place h k ≡ None) where
  root_stays : tables.root ≢ f
  root_stays is =
      let a : tree.content tables.root ≡ tree.content f = ap tree.content is in
      let b = sound.root in cc

  pub added_sound : h < top → IsOwn tables f → IsTree tables tree'
  added_sound low own = record {
    apart = sound.apart;
    root = added.contents tables.root root_stays ∙ sound.root;
    back = λ x h' k' holds. back x h' k' holds (same_or x f) (same_pair h k h' k');
    forth = λ x h' k' is. forth x h' k' is (same_or x f) (same_pair h k h' k');
    own = λ x h' k' is. owns x h' k' is (same_pair h k h' k');
    proper = λ x h' k' holds. proper x h' k' holds (same_or x f);
  }
    where
      back : (x h' k' : ℕ) → tree'.content x ≡ Table h' k' → (x ≡ f) ⊎ (x ≢ f) → ((h' ≡ h) × (k' ≡ k)) ⊎ ((h' ≡ h) × (k' ≡ k) → ⊥) → tree'.place h' k' ≡ Some x
      back x h' k' holds (inl is) way =
          let a : tree'.content x ≡ tree'.content f = ap tree'.content is in
          let b = added.content in
          let c = added.place in
          let same : h' ≡ h = cc in
          let same' : k' ≡ k = cc in cc
      back x h' k' holds (inr other) (inl same) =
          let a = added.contents x other in
          let b = sound.back x h' k' (sym a ∙ holds) in
          let c = none in
          let s0 = same.0 in
          let s1 = same.1 in
          absurd cc
      back x h' k' holds (inr other) (inr differs) =
          added.places h' k' differs ∙ sound.back x h' k' (sym (added.contents x other) ∙ holds)

      forth : (x h' k' : ℕ) → tree'.place h' k' ≡ Some x → (x ≡ f) ⊎ (x ≢ f) → ((h' ≡ h) × (k' ≡ k)) ⊎ ((h' ≡ h) × (k' ≡ k) → ⊥) → tree'.content x ≡ Table h' k'
      forth x h' k' is way (inl same) =
          let a = added.place in
          let b = added.content in
          let s0 = same.0 in
          let s1 = same.1 in
          let there : x ≡ f = cc in cc
      forth x h' k' is (inl here) (inr differs) =
          let a = sound.forth x h' k' (sym (added.places h' k' differs) ∙ is) in
          let b = free in
          absurd cc
      forth x h' k' is (inr other) (inr differs) =
          added.contents x other ∙ sound.forth x h' k' (sym (added.places h' k' differs) ∙ is)

      owns : (x h' k' : ℕ) → tree'.place h' k' ≡ Some x → ((h' ≡ h) × (k' ≡ k)) ⊎ ((h' ≡ h) × (k' ≡ k) → ⊥) → IsOwn tables x
      owns x h' k' is (inl same) =
          let a = added.place in
          let s0 = same.0 in
          let s1 = same.1 in
          let there : f ≡ x = cc in subst (λ n. IsOwn tables n) there own
      owns x h' k' is (inr differs) = sound.own x h' k' (sym (added.places h' k' differs) ∙ is)

      proper : (x h' k' : ℕ) → tree'.content x ≡ Table h' k' → (x ≡ f) ⊎ (x ≢ f) → (h' < top) ⊎ ((h' ≡ top) × (k' ≡ 0))
      proper x h' k' holds (inl is) =
          let a : tree'.content x ≡ tree'.content f = ap tree'.content is in
          let b = added.content in
          let same : h' ≡ h = cc in inl (omega arith)
      proper x h' k' holds (inr other) = sound.proper x h' k' (sym (added.contents x other) ∙ holds)

-- a new table has what the tree says of it where it was not: nothing
pub same_level : (tree tree' : Tree) (leaf : ℕ → ℕ) (f h k s : ℕ) → IsAdded tree tree' f h k → entry_of tree' leaf (Table h k) s ≡ entry_of tree leaf (Table h k) s
same_level tree tree' leaf f zero k s added = refl
same_level tree tree' leaf f (suc h) k s added = ap pointer_of (added.places h (512 * k + s) (λ e. omega (arith, e.0)))

-- where a frame gets a table or loses it, and an entry of a table says so, each other frame has the entries of
-- the second tree
module _ (tables : Tables) (tree tree' : Tree) (word word' leaf : ℕ → ℕ) (f h k parent t s : ℕ) (sound : IsTree tables tree) (says : Says word tables tree leaf)
    (contents : (x : ℕ) → x ≢ f → tree'.content x ≡ tree.content x) (places : (h' k' : ℕ) → ((h' ≡ h) × (k' ≡ k) → ⊥) → tree'.place h' k' ≡ tree.place h' k')
    (above : tree.content parent ≡ Table (suc h) t) (slot : s < slots tables parent) (is : 512 * t + s ≡ k)
    (here : word' (512 * parent + s) ≡ pointer_of (tree'.place h k)) (there : (i : ℕ) → i ≢ 512 * parent + s → word' i ≡ word i) where
  unchanged : (x u : ℕ) → u < slots tables x → 512 * x + u ≢ 512 * parent + s → (c : Content) → tree.content x ≡ c → entry_of tree leaf c u ≡ entry_of tree' leaf c u
  unchanged x u small other Free holds = refl
  unchanged x u small other (Table zero k') holds = refl
  unchanged x u small other (Table (suc h') k') holds = ap pointer_of (sym (places h' (512 * k' + u) differs))
    where
      differs : (h' ≡ h) × (512 * k' + u ≡ k) → ⊥
      differs e =
          let same : tree.content x ≡ Table (suc h) k' = holds ∙ ap (λ n. Table (suc n) k') e.0 in
          let one = one_slot tables tree x parent h k' t u s sound same above small slot (e.1 ∙ sym is) in
          other (omega (arith, one.0, one.1))

  pub others_say : (x u : ℕ) → IsOwn tables x → u < slots tables x → x ≢ f → word' (512 * x + u) ≡ entry_of tree' leaf (tree'.content x) u
  others_say x u owns small old = by (same_or (512 * x + u) (512 * parent + s))
    where
      by : (512 * x + u ≡ 512 * parent + s) ⊎ (512 * x + u ≢ 512 * parent + s) → word' (512 * x + u) ≡ entry_of tree' leaf (tree'.content x) u
      by (inl same) =
          let one = same_place tables x parent u s sound.apart owns (sound.own parent (suc h) t (sound.back parent (suc h) t above)) small slot same in
          let holds : tree'.content x ≡ Table (suc h) t = contents x old ∙ ap tree.content one.0 ∙ above in
          let slot_is : 512 * t + u ≡ k = omega (arith, one.1, is) in
          ap word' same
          ∙ here
          ∙ ap pointer_of (sym (ap (tree'.place h) slot_is))
          ∙ ap (λ c. entry_of tree' leaf c u) (sym holds)
      by (inr other) =
          there (512 * x + u) other
          ∙ says.words x u owns small
          ∙ unchanged x u small other (tree.content x) refl
          ∙ ap (λ c. entry_of tree' leaf c u) (sym (contents x old))

-- memory with the pointer to the new table says the new tree
module _ (tables : Tables) (tree tree' : Tree) (word word' leaf : ℕ → ℕ) (f h k parent t s : ℕ) (sound : IsTree tables tree) (says : Says word tables tree leaf)
    (added : IsAdded tree tree' f h k) (free : tree.content f ≡ Free) (none : tree.place h k ≡ None) (low : h < top) (own : IsOwn tables f)
    (above : tree.content parent ≡ Table (suc h) t) (slot : s < slots tables parent) (is : 512 * t + s ≡ k)
    (here : word' (512 * parent + s) ≡ pointer_word f) (there : (i : ℕ) → i ≢ 512 * parent + s → word' i ≡ word i) where
  parent_own : IsOwn tables parent
  parent_own = sound.own parent (suc h) t (sound.back parent (suc h) t above)

  -- the table of level h above a prefix is the parent
  above_is : (k' u : ℕ) → suc h < top → u < 512 → 512 * k' + u ≡ k → tree.place (suc h) k' ≡ None → ⊥
  above_is k' u lower small same missing =
      let low' : s < 512 = omega (arith, low_slots tables tree parent (suc h) t sound above lower, slot) in
      let e : k' ≡ t = omega (arith, same, is, small, low') in
      let a = sound.back parent (suc h) t above in
      absurd cc

  nothing_below : (h' k' u : ℕ) → h' < top → tree.place h' k' ≡ None → u < 512 → entry_of tree' leaf (Table h' k') u ≡ 0
  nothing_below zero k' u lower missing small = says.nothing zero k' u lower missing small
  nothing_below (suc h') k' u lower missing small =
      ap pointer_of (added.places h' (512 * k' + u) differs) ∙ says.nothing (suc h') k' u lower missing small
    where
      differs : (h' ≡ h) × (512 * k' + u ≡ k) → ⊥
      differs e = above_is k' u (subst (λ n. suc n < top) e.0 lower) small e.1 (subst (λ n. tree.place (suc n) k' ≡ None) e.0 missing)

  pub added_says : Says word' tables tree' leaf
  added_says = record {
    words = λ x u owns small. words x u owns small (same_or x f) (same_or (512 * x + u) (512 * parent + s));
    nothing = λ h' k' u lower missing small. nothing h' k' u lower missing small (same_pair h k h' k');
  }
    where
      words : (x u : ℕ) → IsOwn tables x → u < slots tables x → (x ≡ f) ⊎ (x ≢ f) → (512 * x + u ≡ 512 * parent + s) ⊎ (512 * x + u ≢ 512 * parent + s)
          → word' (512 * x + u) ≡ entry_of tree' leaf (tree'.content x) u
      words x u owns small (inl new) (inl same) =
          let one = same_place tables x parent u s sound.apart owns parent_own small slot same in
          let a = one.0 in
          let b = above in
          let c = free in
          absurd cc
      words x u owns small (inl new) (inr other) =
          let holds : tree'.content x ≡ Table h k = ap tree'.content new ∙ added.content in
          let empty : tree.content x ≡ Free = ap tree.content new ∙ free in
          let not_root : x ≢ tables.root = (λ e. root_stays tables tree tree' f h k sound added free none (sym e ∙ new)) in
          let narrow : u < 512 = omega (arith, other_slots tables x not_root, small) in
          there (512 * x + u) other
          ∙ says.words x u owns small
          ∙ ap (λ c. entry_of tree leaf c u) empty
          ∙ sym (says.nothing h k u low none narrow)
          ∙ sym (same_level tree tree' leaf f h k u added)
          ∙ ap (λ c. entry_of tree' leaf c u) (sym holds)
      words x u owns small (inr old) way =
          others_say tables tree tree' word word' leaf f h k parent t s sound says added.contents added.places above slot is (here ∙ ap pointer_of (sym added.place)) there x u owns small old

      nothing : (h' k' u : ℕ) → h' < top → tree'.place h' k' ≡ None → u < 512 → ((h' ≡ h) × (k' ≡ k)) ⊎ ((h' ≡ h) × (k' ≡ k) → ⊥) → entry_of tree' leaf (Table h' k') u ≡ 0
      nothing h' k' u lower missing small (inl same) =
          let a = added.place in
          let s0 = same.0 in
          let s1 = same.1 in
          absurd cc
      nothing h' k' u lower missing small (inr differs) =
          nothing_below h' k' u lower (sym (added.places h' k' differs) ∙ missing) small
