-- Another leaf for one page, in the table that the page has.
use Rattle.std.proofs.Common.{◌≡◌, ◌≢◌, ℕ, zero, suc, ◌+◌, ◌*◌, ◌/◌, ◌%◌, ◌<◌, ◌⊎◌, inl, inr, Some, None, refl, sym, ap, ◌∙◌, arith}
use Rattle.shadow_space.specs.declared.writing.Tables.{Tables}
use Rattle.shadow_space.specs.Trees.{Content, Free, Table, IsOwn, IsTree, Says, Tree, entry_of, slots, top}
use Rattle.shadow_space.proofs.Adding.{low_slots}
use Rattle.shadow_space.proofs.Slots.{same_place, whole}
use Rattle.table_words.proofs.Words.{same_or}

parts : (k u page : ℕ) → u < 512 → 512 * k + u ≡ page → (k ≡ page / 512) × (u ≡ page % 512)
parts k u page small is = (omega arith, omega arith)

module _ (tables : Tables) (tree : Tree) (word word' leaf leaf' : ℕ → ℕ) (page f : ℕ) (sound : IsTree tables tree) (says : Says word tables tree leaf)
    (place : tree.place 0 (page / 512) ≡ Some f) (here : word' (512 * f + page % 512) ≡ leaf' page)
    (there : (i : ℕ) → i ≢ 512 * f + page % 512 → word' i ≡ word i) (others : (p : ℕ) → p ≢ page → leaf' p ≡ leaf p) where
  holds : tree.content f ≡ Table 0 (page / 512)
  holds = sound.forth f 0 (page / 512) place

  own : IsOwn tables f
  own = sound.own f 0 (page / 512) place

  slot : page % 512 < slots tables f
  slot = omega (arith, low_slots tables tree f 0 (page / 512) sound holds (omega arith))

  unchanged : (x u : ℕ) → u < slots tables x → 512 * x + u ≢ 512 * f + page % 512 → (c : Content) → tree.content x ≡ c → entry_of tree leaf c u ≡ entry_of tree leaf' c u
  unchanged x u small other Free is = refl
  unchanged x u small other (Table (suc h) k) is = refl
  unchanged x u small other (Table zero k) is = sym (others (512 * k + u) differs)
    where
      differs : 512 * k + u ≢ page
      differs same =
          let narrow : u < 512 = omega (arith, low_slots tables tree x 0 k sound is (omega arith), small) in
          let both = parts k u page narrow same in
          let a = sound.back x 0 k is in
          let k_is = both.0 in
          let there : x ≡ f = cc in
          other (omega (arith, there, both.1))

  nothing_too : (h k u : ℕ) → h < top → tree.place h k ≡ None → u < 512 → entry_of tree leaf' (Table h k) u ≡ 0
  nothing_too (suc h) k u low missing small = says.nothing (suc h) k u low missing small
  nothing_too zero k u low missing small = others (512 * k + u) differs ∙ says.nothing zero k u low missing small
    where
      differs : 512 * k + u ≢ page
      differs same =
          let both = parts k u page small same in
          let k_is = both.0 in
          let a = place in
          absurd cc

  pub leaf_says : Says word' tables tree leaf'
  leaf_says = record {
    words = λ x u owns small. words x u owns small (same_or (512 * x + u) (512 * f + page % 512));
    nothing = nothing_too;
  }
    where
      words : (x u : ℕ) → IsOwn tables x → u < slots tables x → (512 * x + u ≡ 512 * f + page % 512) ⊎ (512 * x + u ≢ 512 * f + page % 512)
          → word' (512 * x + u) ≡ entry_of tree leaf' (tree.content x) u
      words x u owns small (inl same) =
          let one = same_place tables x f u (page % 512) sound.apart owns own small slot same in
          let content : tree.content x ≡ Table 0 (page / 512) = ap tree.content one.0 ∙ holds in
          let slot_is : 512 * (page / 512) + u ≡ page = omega (arith, one.1, whole page) in
          ap word' same ∙ here ∙ ap leaf' (sym slot_is) ∙ ap (λ c. entry_of tree leaf' c u) (sym content)
      words x u owns small (inr other) =
          there (512 * x + u) other ∙ says.words x u owns small ∙ unchanged x u small other (tree.content x) refl
