-- Lists without one of their entries.
use Rattle.std.proofs.Common.{◌≡◌, ◌≢◌, ℕ, zero, suc, ◌+◌, ◌-◌, ◌<◌, ◌≤◌, ◌⊎◌, inl, inr, Bool, false, cond, ◌==◌, List, [], ◌∷◌, ◌++◌, Some, None, length, get_or, remove, drop, take, refl, sym, ap, subst, ◌∙◌, arith, length-append, length-drop}
use Rattle.std.specs.List.{All, AllPairs, copy_within, filter}
use Rattle.std.proofs.lemmas.Bool.{cases_lt, eq-eqb, ne_eqb}
use Rattle.std.proofs.lemmas.List.{drop-append-le, drop-take, drop_all, length-take}
use Rattle.std.proofs.lemmas.List.Edits.{get_or-remove_above, get_or-remove_below, length-remove, take-paste}
use Rattle.std.proofs.lemmas.List.Elements.{All-tail}
use Rattle.arch_defs.specs.declared.cached.Entry.{Entry}
use Rattle.arch_defs.specs.CachedEntries.{HasOtherPage, entry_at, filled, newest, without}
use Rattle.shadow_space.specs.Leaves.{leaf_word_if, leaves}

-- what holds of all
pub all_removed : (P : Entry → Type 0) (xs : List Entry) (i : ℕ) → i < length xs → All P xs → All P (remove xs i)
all_removed P xs i inside all k d h = by (cases_lt k i)
  where
    by : (k < i) ⊎ (i ≤ k) → P (get_or (remove xs i) k d)
    by (inl below) = subst P (sym (get_or-remove_below xs i d k below inside)) (all k d (omega (arith, below, inside)))
    by (inr above) = subst P (sym (get_or-remove_above xs i d k above inside)) (all (k + 1) d (omega (arith, length-remove xs i inside, h)))

-- each page but one has the entry that it had
entry_other : (xs : List Entry) (i : ℕ) (d : Entry) (page : ℕ) → i < length xs → page ≢ (get_or xs i d).page → entry_at page (remove xs i) ≡ entry_at page xs
entry_other [] i d page inside other = absurd (omega (arith, inside))
entry_other (x ∷ xs) zero d page inside other = sym (rw (ne_eqb x.page page (λ e. other (sym e))) refl)
entry_other (x ∷ xs) (suc i) d page inside other = ap (λ o. cond (x.page == page) (Some x) o) (entry_other xs i d page (omega (arith, inside)) other)

pub leaf_other : (blocks : List ℕ) (xs : List Entry) (i : ℕ) (d : Entry) (page : ℕ) → i < length xs → page ≢ (get_or xs i d).page → leaves blocks (remove xs i) page ≡ leaves blocks xs page
unfolding leaves
leaf_other blocks xs i d page inside other = ap (leaf_word_if blocks) (entry_other xs i d page inside other)

-- and that one has none
none_at : (xs : List Entry) (page : ℕ) → All (λ y. y.page ≢ page) xs → entry_at page xs ≡ None
none_at [] page others = refl
none_at (x ∷ xs) page others = rw (ne_eqb x.page page (others 0 x (omega arith))) (none_at xs page (All-tail (λ y. y.page ≢ page) x xs others))

pairs_tail : (x : Entry) (xs : List Entry) → AllPairs HasOtherPage (x ∷ xs) → AllPairs HasOtherPage xs
pairs_tail x xs pages i j d before h = pages (suc i) (suc j) d (omega arith) (omega (arith, h))

after_first : (x : Entry) (xs : List Entry) → AllPairs HasOtherPage (x ∷ xs) → All (λ y. y.page ≢ x.page) xs
after_first x xs pages k d h e = pages 0 (suc k) d (omega arith) (omega (arith, h)) (sym e)

entry_gone : (xs : List Entry) (i : ℕ) (d : Entry) → i < length xs → AllPairs HasOtherPage xs → entry_at (get_or xs i d).page (remove xs i) ≡ None
entry_gone [] i d inside pages = absurd (omega (arith, inside))
entry_gone (x ∷ xs) zero d inside pages = none_at xs x.page (after_first x xs pages)
entry_gone (x ∷ xs) (suc i) d inside pages =
    rw (ne_eqb x.page (get_or xs i d).page (pages 0 (suc i) d (omega arith) inside)) (entry_gone xs i d (omega (arith, inside)) (pairs_tail x xs pages))

pub leaf_gone : (blocks : List ℕ) (xs : List Entry) (i : ℕ) (d : Entry) → i < length xs → AllPairs HasOtherPage xs → leaves blocks (remove xs i) (get_or xs i d).page ≡ 0
unfolding leaves
leaf_gone blocks xs i d inside pages = ap (leaf_word_if blocks) (entry_gone xs i d inside pages)

-- the entries of other pages
pub without_none : (xs : List Entry) (page : ℕ) → All (λ y. y.page ≢ page) xs → without page xs ≡ xs
without_none [] page others = refl
without_none (x ∷ xs) page others = rw (ne_eqb x.page page (others 0 x (omega arith))) (ap (λ ys. x ∷ ys) (without_none xs page (All-tail (λ y. y.page ≢ page) x xs others)))

pub without_one : (xs : List Entry) (i : ℕ) (d : Entry) → i < length xs → AllPairs HasOtherPage xs → without (get_or xs i d).page xs ≡ remove xs i
without_one [] i d inside pages = absurd (omega (arith, inside))
without_one (x ∷ xs) zero d inside pages = rw (eq-eqb x.page x.page refl) (without_none xs x.page (after_first x xs pages))
without_one (x ∷ xs) (suc i) d inside pages =
    rw (ne_eqb x.page (get_or xs i d).page (pages 0 (suc i) d (omega arith) inside)) (ap (λ ys. x ∷ ys) (without_one xs i d (omega (arith, inside)) (pairs_tail x xs pages)))

-- as many as there may be are all
newest_all : (most : ℕ) (xs : List Entry) → length xs ≤ most → newest most xs ≡ xs
newest_all most xs few = let none : length xs - most ≡ 0 = omega (arith, few) in ap (λ n. drop n xs) none

-- a fill of a page that has an entry, and of one that has none
pub filled_found : (most : ℕ) (xs : List Entry) (e d : Entry) (i : ℕ) → i < length xs → length xs ≤ most → AllPairs HasOtherPage xs → (get_or xs i d).page ≡ e.page → filled most xs e ≡ remove xs i ++ e ∷ []
unfolding filled
filled_found most xs e d i inside few pages is =
    ap (λ ys. newest most (ys ++ e ∷ [])) (ap (λ p. without p xs) (sym is) ∙ without_one xs i d inside pages)
    ∙ newest_all most (remove xs i ++ e ∷ []) (omega (arith, length-append (remove xs i) (e ∷ []), length-remove xs i inside, few))

pub filled_room : (most : ℕ) (xs : List Entry) (e : Entry) → length xs < most → All (λ y. y.page ≢ e.page) xs → filled most xs e ≡ xs ++ e ∷ []
unfolding filled
filled_room most xs e room others =
    ap (λ ys. newest most (ys ++ e ∷ [])) (without_none xs e.page others)
    ∙ newest_all most (xs ++ e ∷ []) (omega (arith, length-append xs (e ∷ []), room))

pub filled_full : (most : ℕ) (xs : List Entry) (e : Entry) → length xs ≡ most → 0 < most → All (λ y. y.page ≢ e.page) xs → filled most xs e ≡ remove xs 0 ++ e ∷ []
unfolding filled
filled_full most xs e full some others =
    ap (λ ys. newest most (ys ++ e ∷ [])) (without_none xs e.page others)
    ∙ ap (λ n. drop n (xs ++ e ∷ [])) one
    ∙ drop-append-le 1 xs (e ∷ []) (omega (arith, full, some))
  where
    one : length (xs ++ e ∷ []) - most ≡ 1
    one = omega (arith, length-append xs (e ∷ []), full)

pub filled_none : (xs : List Entry) (e : Entry) → length xs ≤ 0 → filled 0 xs e ≡ xs
unfolding filled
filled_none [] e few = drop_all (length (without e.page [] ++ e ∷ []) - 0) (without e.page [] ++ e ∷ []) (omega arith)
filled_none (x ∷ xs) e few = absurd (omega (arith, few))

-- those that a test keeps
pub kept_removed : (xs : List Entry) (i : ℕ) (d : Entry) (p : Entry → Bool) → i < length xs → p (get_or xs i d) ≡ false → filter p (remove xs i) ≡ filter p xs
kept_removed [] i d p inside gone = absurd (omega (arith, inside))
kept_removed (x ∷ xs) zero d p inside gone = sym (rw gone refl)
kept_removed (x ∷ xs) (suc i) d p inside gone = ap (λ ys. cond (p x) (x ∷ ys) ys) (kept_removed xs i d p (omega (arith, inside)) gone)

-- a list whose later elements move up by one
take_take : (n m : ℕ) (xs : List Entry) → n ≤ m → take n (take m xs) ≡ take n xs
take_take zero m xs h = refl
take_take (suc n) zero xs h = absurd (omega (arith, h))
take_take (suc n) (suc m) [] h = refl
take_take (suc n) (suc m) (x ∷ xs) h = ap (λ ys. x ∷ ys) (take_take n m xs (omega (arith, h)))

pub moved_up : (slots : List Entry) (count i : ℕ) → i < count → count ≤ length slots → take (count - 1) (copy_within slots (i + 1) count i) ≡ remove (take count slots) i
moved_up slots count i inside few =
    let sum : count - 1 ≡ i + (count - (i + 1)) = omega (arith, inside) in
    let whole : suc i + (count - (i + 1)) ≡ count = omega (arith, inside) in
    let next : i + 1 ≡ suc i = omega arith in
    ap (λ n. take n (copy_within slots (i + 1) count i)) sum
    ∙ take-paste slots i (drop (i + 1) slots) (count - (i + 1)) (omega (arith, inside, few)) (omega (arith, length-drop (i + 1) slots, few))
    ∙ ap (λ xs. xs ++ take (count - (i + 1)) (drop (i + 1) slots)) (sym (take_take i count slots (omega (arith, inside))))
    ∙ ap (λ n. take i (take count slots) ++ take (count - (i + 1)) (drop n slots)) next
    ∙ ap (λ xs. take i (take count slots) ++ xs) (sym (drop-take (suc i) (count - (i + 1)) slots))
    ∙ ap (λ n. take i (take count slots) ++ drop (suc i) (take n slots)) whole

pub shown_removed : (slots new shown : List Entry) (count i : ℕ) → take count slots ≡ shown → i < length shown → count ≤ length slots → new ≡ copy_within slots (i + 1) count i → take (count - 1) new ≡ remove shown i
shown_removed slots new shown count i seen inside few is =
    ap (take (count - 1)) is
    ∙ moved_up slots count i (omega (arith, inside, ap length (sym seen), length-take count slots)) few
    ∙ ap (λ xs. remove xs i) seen
