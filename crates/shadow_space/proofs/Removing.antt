-- A tree without a table that has no entry.
use Rattle.std.proofs.Common.{◌≡◌, ◌≢◌, ℕ, zero, suc, ◌+◌, ◌*◌, ◌<◌, ◌⊎◌, inl, inr, Some, None, sym, ap, subst, ◌∙◌, arith}
use Rattle.shadow_space.specs.declared.writing.Tables.{Tables}
use Rattle.shadow_space.specs.Trees.{Free, Table, IsOwn, IsTree, Says, Tree, entry_of, pointer_of, slots, top}
use Rattle.shadow_space.proofs.Adding.{IsAdded, low_slots, others_say, same_pair}
use Rattle.shadow_space.proofs.Slots.{same_place}
use Rattle.table_words.proofs.Words.{same_or}

-- the first tree is the second with a table in a frame
module _ (tables : Tables) (tree tree' : Tree) (f h k : ℕ) (sound : IsTree tables tree) (removed : IsAdded tree' tree f h k) (free : tree'.content f ≡ Free) (none : tree'.place h k ≡ None) where
  root_other : h < top → tables.root ≢ f
  root_other low is =
      let a : tree.content tables.root ≡ tree.content f = ap tree.content is in
      let b = sound.root in
      let c = removed.content in
      let at_top : top ≡ h = cc in omega arith

  other_frame : (x h' k' : ℕ) → tree'.content x ≡ Table h' k' → x ≢ f
  other_frame x h' k' holds is =
      let a : tree'.content x ≡ tree'.content f = ap tree'.content is in
      let b = free in
      absurd cc

  other_table : (x h' k' : ℕ) → tree'.place h' k' ≡ Some x → (h' ≡ h) × (k' ≡ k) → ⊥
  other_table x h' k' is same =
      let a = none in
      let s0 = same.0 in
      let s1 = same.1 in
      absurd cc

  pub removed_sound : h < top → IsTree tables tree'
  removed_sound low = record {
    apart = sound.apart;
    root = sym (removed.contents tables.root (root_other low)) ∙ sound.root;
    back = back;
    forth = forth;
    own = λ x h' k' is. sound.own x h' k' (removed.places h' k' (other_table x h' k' is) ∙ is);
    proper = λ x h' k' holds. sound.proper x h' k' (removed.contents x (other_frame x h' k' holds) ∙ holds);
  }
    where
      back : (x h' k' : ℕ) → tree'.content x ≡ Table h' k' → tree'.place h' k' ≡ Some x
      back x h' k' holds = by (same_pair h k h' k')
        where
          there : tree.place h' k' ≡ Some x
          there = sound.back x h' k' (removed.contents x (other_frame x h' k' holds) ∙ holds)

          by : ((h' ≡ h) × (k' ≡ k)) ⊎ ((h' ≡ h) × (k' ≡ k) → ⊥) → tree'.place h' k' ≡ Some x
          by (inl same) =
              let a = removed.place in
              let s0 = same.0 in
              let s1 = same.1 in
              let b = there in
              let is : x ≡ f = cc in
              absurd (other_frame x h' k' holds is)
          by (inr differs) = sym (removed.places h' k' differs) ∙ there

      forth : (x h' k' : ℕ) → tree'.place h' k' ≡ Some x → tree'.content x ≡ Table h' k'
      forth x h' k' is = sym (removed.contents x other) ∙ holds
        where
          holds : tree.content x ≡ Table h' k'
          holds = sound.forth x h' k' (removed.places h' k' (other_table x h' k' is) ∙ is)

          other : x ≢ f
          other same =
              let a : tree.content x ≡ tree.content f = ap tree.content same in
              let b = removed.content in
              let c = holds in
              let s0 : h' ≡ h = cc in
              let s1 : k' ≡ k = cc in
              other_table x h' k' is (s0, s1)

-- memory without the pointer to it says the new tree
module _ (tables : Tables) (tree tree' : Tree) (word word' leaf : ℕ → ℕ) (f h k parent t s : ℕ) (sound : IsTree tables tree) (says : Says word tables tree leaf)
    (removed : IsAdded tree' tree f h k) (free : tree'.content f ≡ Free) (none : tree'.place h k ≡ None) (low : h < top)
    (above : tree.content parent ≡ Table (suc h) t) (slot : s < slots tables parent) (is : 512 * t + s ≡ k)
    (empty : (u : ℕ) → u < 512 → entry_of tree leaf (Table h k) u ≡ 0)
    (here : word' (512 * parent + s) ≡ 0) (there : (i : ℕ) → i ≢ 512 * parent + s → word' i ≡ word i) where
  parent_own : IsOwn tables parent
  parent_own = sound.own parent (suc h) t (sound.back parent (suc h) t above)

  nothing_below : (h' k' u : ℕ) → entry_of tree leaf (Table h' k') u ≡ 0 → entry_of tree' leaf (Table h' k') u ≡ 0
  nothing_below zero k' u zero_is = zero_is
  nothing_below (suc h') k' u zero_is = by (same_pair h k h' (512 * k' + u))
    where
      by : ((h' ≡ h) × (512 * k' + u ≡ k)) ⊎ ((h' ≡ h) × (512 * k' + u ≡ k) → ⊥) → pointer_of (tree'.place h' (512 * k' + u)) ≡ 0
      by (inl same) =
          let a = none in
          let s0 = same.0 in
          let s1 = same.1 in
          let gone : tree'.place h' (512 * k' + u) ≡ None = cc in
          ap pointer_of gone
      by (inr differs) = ap pointer_of (sym (removed.places h' (512 * k' + u) differs)) ∙ zero_is

  pub removed_says : Says word' tables tree' leaf
  removed_says = record {
    words = λ x u owns small. words x u owns small (same_or x f) (same_or (512 * x + u) (512 * parent + s));
    nothing = λ h' k' u lower missing small. nothing h' k' u lower missing small (same_pair h k h' k');
  }
    where
      words : (x u : ℕ) → IsOwn tables x → u < slots tables x → (x ≡ f) ⊎ (x ≢ f) → (512 * x + u ≡ 512 * parent + s) ⊎ (512 * x + u ≢ 512 * parent + s)
          → word' (512 * x + u) ≡ entry_of tree' leaf (tree'.content x) u
      words x u owns small (inl gone) (inl same) =
          let one = same_place tables x parent u s sound.apart owns parent_own small slot same in
          let a = one.0 in
          let b = above in
          let c = removed.content in
          let high : suc h ≡ h = cc in
          absurd (omega (arith, high))
      words x u owns small (inl gone) (inr other) =
          let held : tree.content x ≡ Table h k = ap tree.content gone ∙ removed.content in
          let empty_is : tree'.content x ≡ Free = ap tree'.content gone ∙ free in
          let narrow : u < 512 = omega (arith, low_slots tables tree x h k sound held low, small) in
          there (512 * x + u) other
          ∙ says.words x u owns small
          ∙ ap (λ c. entry_of tree leaf c u) held
          ∙ empty u narrow
          ∙ ap (λ c. entry_of tree' leaf c u) (sym empty_is)
      words x u owns small (inr old) way =
          others_say tables tree tree' word word' leaf f h k parent t s sound says (λ x other. sym (removed.contents x other)) (λ h' k' differs. sym (removed.places h' k' differs))
          above slot is (here ∙ ap pointer_of (sym none)) there x u owns small old

      nothing : (h' k' u : ℕ) → h' < top → tree'.place h' k' ≡ None → u < 512 → ((h' ≡ h) × (k' ≡ k)) ⊎ ((h' ≡ h) × (k' ≡ k) → ⊥) → entry_of tree' leaf (Table h' k') u ≡ 0
      nothing h' k' u lower missing small (inl same) =
          nothing_below h' k' u (subst (λ n. entry_of tree leaf (Table n k') u ≡ 0) (sym same.0) (subst (λ n. entry_of tree leaf (Table h n) u ≡ 0) (sym same.1) (empty u small)))
      nothing h' k' u lower missing small (inr differs) =
          nothing_below h' k' u (says.nothing h' k' u lower (removed.places h' k' differs ∙ missing) small)
