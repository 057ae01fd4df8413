-- The entry of a page, and its leaf, in a list with one more.
use Rattle.std.proofs.Common.{◌≡◌, ◌≢◌, ℕ, ◌⊎◌, inl, inr, true, false, ◌==◌, cond, List, [], ◌∷◌, ◌++◌, Some, refl, sym, ap, subst, ◌∙◌, arith}
use Rattle.std.specs.List.{All}
use Rattle.std.proofs.lemmas.Bool.{cases_Bool, eq-eqb, ne_eqb, eqb-true}
use Rattle.std.proofs.lemmas.List.Elements.{All-tail}
use Rattle.arch_defs.specs.declared.cached.Entry.{Entry}
use Rattle.arch_defs.specs.CachedEntries.{HasOtherPage, entry_at}
use Rattle.shadow_space.specs.Leaves.{leaf_word_if, leaf_word, leaves}

-- another page has the entry that it had
entry_there : (xs : List Entry) (e : Entry) (page : ℕ) → page ≢ e.page → entry_at page (xs ++ e ∷ []) ≡ entry_at page xs
entry_there [] e page other = rw (ne_eqb e.page page (λ is. other (sym is))) refl
entry_there (x ∷ xs) e page other = ap (λ o. cond (x.page == page) (Some x) o) (entry_there xs e page other)

-- and its own page the new one, where there was none
entry_here : (xs : List Entry) (e : Entry) → All (λ x. HasOtherPage x e) xs → entry_at e.page (xs ++ e ∷ []) ≡ Some e
entry_here [] e others = rw (eq-eqb e.page e.page refl) refl
entry_here (x ∷ xs) e others =
    let other : (x.page == e.page) ≡ false = ne_eqb x.page e.page (others 0 x (omega arith)) in
    rw other (entry_here xs e (All-tail (λ x. HasOtherPage x e) x xs others))

-- so of leaves
pub leaf_here : (blocks : List ℕ) (xs : List Entry) (e : Entry) → All (λ x. HasOtherPage x e) xs → leaves blocks (xs ++ e ∷ []) e.page ≡ leaf_word blocks e
unfolding leaves
leaf_here blocks xs e others = ap (leaf_word_if blocks) (entry_here xs e others)

pub leaf_there : (blocks : List ℕ) (xs : List Entry) (e : Entry) (page : ℕ) → page ≢ e.page → leaves blocks (xs ++ e ∷ []) page ≡ leaves blocks xs page
unfolding leaves
leaf_there blocks xs e page other = ap (leaf_word_if blocks) (entry_there xs e page other)

pub no_leaf : (blocks : List ℕ) (page : ℕ) → leaves blocks [] page ≡ 0
unfolding leaves
no_leaf blocks page = refl

-- an entry that is found is one of the list's, and has the page
pub found_has : (P : Entry → Type 0) (page : ℕ) (xs : List Entry) (e : Entry) → All P xs → entry_at page xs ≡ Some e → P e × (e.page ≡ page)
found_has P page [] e all is = absurd cc
found_has P page (x ∷ xs) e all is = by (found_has P page xs e (All-tail P x xs all)) (cases_Bool (x.page == page))
  where
    by : (entry_at page xs ≡ Some e → P e × (e.page ≡ page)) → ((x.page == page) ≡ true) ⊎ ((x.page == page) ≡ false) → P e × (e.page ≡ page)
    by later (inl same_page) =
        let found : Some x ≡ Some e = rw same_page at is in
        let same : x ≡ e = cc in
        (subst P same (all 0 x (omega arith)), ap (λ e. e.page) (sym same) ∙ eqb-true x.page page same_page)
    by later (inr other) = later (rw other at is)
