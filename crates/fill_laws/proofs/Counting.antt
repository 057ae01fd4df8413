-- How many fills a list needs, whatever says what it lacks.
use Rattle.std.specs.Prelude.{◌==◌, not, filter}
use Rattle.std.specs.List.{All}
use Rattle.std.specs.Option.{option_or}
use Rattle.std.proofs.Common.{cond, ◌≡◌, ℕ, zero, suc, ◌+◌, ◌-◌, ◌<◌, ◌≤◌, ◌⊎◌, ◌∙◌, inl, inr, ⊎_elim, Bool, true, false, List, [], ◌∷◌, ◌++◌, length, drop, Option, Some, None, refl, ap, sym, arith, append_assoc, length-append, length-drop, suc-add, zero-add}
use Rattle.std.proofs.lemmas.Bool.{cond_both, eqb-true, eqb-false, eq-eqb, ne_eqb}
use Rattle.std.proofs.lemmas.List.{append-nil, drop-append-le}
use Rattle.std.proofs.lemmas.List.Elements.{All-append, All-drop, All-filter, All-nil, All-push, filter-append}
use Rattle.std.proofs.lemmas.List.Folds.{find-append}
use Rattle.arch_defs.specs.declared.cached.Entry.{Entry}
use Rattle.arch_defs.specs.CachedEntries.{entry_at, filled, without}
use Rattle.instruction_laws.proofs.Cached.{all_found}
use Rattle.instruction_laws.proofs.Asking.{In}

-- the entry of a page: by the first entry and the others
first_none : (b : Bool) (x : Entry) (others : Option Entry) → cond b (Some x) others ≡ None → (b ≡ false) × (others ≡ None)
first_none true x others e = absurd cc
first_none false x others e = (refl, e)

first_some : (b : Bool) (x e : Entry) (others : Option Entry) → cond b (Some x) others ≡ Some e → ((b ≡ true) × (x ≡ e)) ⊎ ((b ≡ false) × (others ≡ Some e))
first_some true x e others is = let one : x ≡ e = cc in inl (refl, one)
first_some false x e others is = inr (refl, is)

-- and after each part of a fill
absent_before : (p : ℕ) (xs ys : List Entry) → entry_at p xs ≡ None → entry_at p (xs ++ ys) ≡ entry_at p ys
absent_before p xs ys e = find-append (λ x. x.page == p) xs ys ∙ ap (λ o. option_or o (entry_at p ys)) e

absent_filtered : (p : ℕ) (test : Entry → Bool) (xs : List Entry) → entry_at p xs ≡ None → entry_at p (filter test xs) ≡ None
absent_filtered p test [] e = refl
absent_filtered p test (x ∷ xs) e = let parts = first_none (x.page == p) x (entry_at p xs) e in
    let rest : entry_at p (filter test xs) ≡ None = absent_filtered p test xs parts.1 in
    cond_both (test x) (x ∷ filter test xs) (filter test xs) (λ ys. entry_at p ys ≡ None) (λ keep. rw parts.0 rest) (λ keep. rest)

without_absent : (p : ℕ) (xs : List Entry) → entry_at p (without p xs) ≡ None
without_absent p [] = refl
without_absent p (x ∷ xs) = by (x.page == p) refl (without_absent p xs)
  where
    by : (is : Bool) → (x.page == p) ≡ is → entry_at p (without p xs) ≡ None → entry_at p (cond (not is) (x ∷ without p xs) (without p xs)) ≡ None
    by true is rest = rest
    by false is rest = rw is rest

without_same : (p : ℕ) (xs : List Entry) → entry_at p xs ≡ None → without p xs ≡ xs
without_same p [] e = refl
without_same p (x ∷ xs) e = let parts = first_none (x.page == p) x (entry_at p xs) e in rw parts.0 (ap (λ ys. x ∷ ys) (without_same p xs parts.1))

absent_dropped : (p n : ℕ) (xs : List Entry) → entry_at p xs ≡ None → entry_at p (drop n xs) ≡ None
absent_dropped p zero xs e = e
absent_dropped p (suc n) [] e = refl
absent_dropped p (suc n) (x ∷ xs) e = absent_dropped p n xs (first_none (x.page == p) x (entry_at p xs) e).1

pub found_page : (p : ℕ) (xs : List Entry) (e : Entry) → entry_at p xs ≡ Some e → e.page ≡ p
found_page p [] e is = absurd cc
found_page p (x ∷ xs) e is = ⊎_elim
    (λ (here : ((x.page == p) ≡ true) × (x ≡ e)). ap (λ (e : Entry). e.page) (sym here.1) ∙ eqb-true x.page p here.0)
    (λ (later : ((x.page == p) ≡ false) × (entry_at p xs ≡ Some e)). found_page p xs e later.1)
    (first_some (x.page == p) x e (entry_at p xs) is)

-- a list in two parts: the entries before, and those filled since, which are fresh, and whose pages are not before
record IsSplit (IsFresh : Entry → Type 0) (entries before since : List Entry) : Type 0 where
  pub is : entries ≡ before ++ since
  pub fresh : All IsFresh since
  pub apart : (p : ℕ) (e : Entry) → entry_at p since ≡ Some e → entry_at p before ≡ None

-- what stays of the entries before, where one is filled
still : ℕ → List Entry → List Entry → Entry → List Entry
still most before since e = drop (length (without e.page before ++ (since ++ e ∷ [])) - most) (without e.page before)

filled_behind : (most : ℕ) (before since : List Entry) (e : Entry) → entry_at e.page since ≡ None → length since < most
    → filled most (before ++ since) e ≡ still most before since e ++ (since ++ e ∷ [])
unfolding filled still
filled_behind most before since e absent room =
    rw (filter-append (λ (x : Entry). not (x.page == e.page)) before since, without_same e.page since absent, append_assoc (without e.page before) since (e ∷ []))
    (drop-append-le (length (without e.page before ++ (since ++ e ∷ [])) - most) (without e.page before) (since ++ e ∷ [])
    (omega (arith, length-append (without e.page before) (since ++ e ∷ []), length-append since (e ∷ []))))

filled_few : (most : ℕ) (entries : List Entry) (e : Entry) → length (filled most entries e) ≤ most
unfolding filled
filled_few most entries e = omega (arith, length-drop (length (without e.page entries ++ e ∷ []) - most) (without e.page entries ++ e ∷ []))

split_filled : (IsFresh : Entry → Type 0) (most : ℕ) (entries before since : List Entry) (e : Entry) → IsSplit IsFresh entries before since → IsFresh e
    → entry_at e.page since ≡ None → length since < most → IsSplit IsFresh (filled most entries e) (still most before since e) (since ++ e ∷ [])
unfolding still
split_filled IsFresh most entries before since e split fresh absent room = record {
  is = rw split.is (filled_behind most before since e absent room);
  fresh = All-push IsFresh since e split.fresh fresh;
  apart = λ p x. apart p x (entry_at p since) refl;
}
  where
    apart : (p : ℕ) (x : Entry) (there : Option Entry) → entry_at p since ≡ there → entry_at p (since ++ e ∷ []) ≡ Some x → entry_at p (still most before since e) ≡ None
    apart p x (Some held) is found = absent_dropped p _ (without e.page before) (absent_filtered p _ before (split.apart p held is))
    apart p x None is found = by (e.page == p) refl (sym (absent_before p since (e ∷ []) is) ∙ found)
      where
        by : (same : Bool) → (e.page == p) ≡ same → cond same (Some e) None ≡ Some x → entry_at p (still most before since e) ≡ None
        by true same one = rw (← eqb-true e.page p same) (absent_dropped e.page _ (without e.page before) (without_absent e.page before))
        by false same one = absurd cc

still_fresh : (IsFresh : Entry → Type 0) (most : ℕ) (before since : List Entry) (e : Entry) → All IsFresh before → All IsFresh (still most before since e)
unfolding still
still_fresh IsFresh most before since e fresh = All-drop IsFresh _ (without e.page before) (All-filter _ IsFresh before fresh)

-- a list after at most that many fills, where it says itself what it lacks
abbrev pub next_filled : (List Entry → List Entry) → ℕ → List Entry → Option Entry → List Entry
next_filled others most entries None = entries
next_filled others most entries (Some e) = others (filled most entries e)

unfoldable pub filling : (List Entry → Option Entry) → ℕ → ℕ → List Entry → List Entry
filling lacks most zero entries = entries
filling lacks most (suc n) entries = next_filled (filling lacks most n) most entries (lacks entries)

-- what is asked of that: no page is missing that has a fresh entry; what is filled is fresh; and where all
-- entries are fresh, only some pages are missing
pub record Counts (IsFresh : Entry → Type 0) (lacks : List Entry → Option Entry) (pages : List ℕ) : Type 0 where
  pub missing : (entries : List Entry) (e held : Entry) → lacks entries ≡ Some e → entry_at e.page entries ≡ Some held → IsFresh held → ⊥
  pub fresh : (entries : List Entry) (e : Entry) → lacks entries ≡ Some e → IsFresh e
  pub few : (entries : List Entry) (e : Entry) → All IsFresh entries → lacks entries ≡ Some e → In e.page pages

-- what is missing has not been filled since
not_since : {IsFresh : Entry → Type 0} {lacks : List Entry → Option Entry} {pages : List ℕ} → Counts IsFresh lacks pages
    → (entries before since : List Entry) (e : Entry) → IsSplit IsFresh entries before since → lacks entries ≡ Some e → entry_at e.page since ≡ None
not_since {IsFresh = IsFresh} c entries before since e split missing_entry = by (entry_at e.page since) refl
  where
    by : (there : Option Entry) → entry_at e.page since ≡ there → there ≡ None
    by None is = refl
    by (Some held) is = absurd (c.missing entries e held missing_entry
        (rw split.is (absent_before e.page before since (split.apart e.page held is) ∙ is))
        (all_found IsFresh (λ x. x.page == e.page) since held split.fresh is))

all_fresh : {IsFresh : Entry → Type 0} (entries before since : List Entry) → IsSplit IsFresh entries before since → All IsFresh before → All IsFresh entries
all_fresh {IsFresh = IsFresh} entries before since split fresh = rw split.is (All-append IsFresh before since fresh split.fresh)

-- the pages of a list but one
without_page : ℕ → List ℕ → List ℕ
without_page p [] = []
without_page p (q ∷ qs) = cond (q == p) (without_page p qs) (q ∷ without_page p qs)

others_stay : (p r : ℕ) (qs : List ℕ) → (p ≡ r → ⊥) → In r qs → In r (without_page p qs)
unfolding without_page
others_stay p r [] other is = is
others_stay p r (q ∷ qs) other (inl e) = rw (ne_eqb q p (λ same. other (sym same ∙ e))) (inl e)
others_stay p r (q ∷ qs) other (inr is) = cond_both (q == p) (without_page p qs) (q ∷ without_page p qs) (λ ys. In r ys)
    (λ same. others_stay p r qs other is) (λ same. inr (others_stay p r qs other is))

shorter_or_same : (p : ℕ) (qs : List ℕ) → length (without_page p qs) ≤ length qs
unfolding without_page
shorter_or_same p [] = omega arith
shorter_or_same p (q ∷ qs) = let rest = shorter_or_same p qs in
    cond_both (q == p) (without_page p qs) (q ∷ without_page p qs) (λ ys. length ys ≤ suc (length qs)) (λ same. omega arith) (λ same. omega arith)

shorter : (p : ℕ) (qs : List ℕ) → In p qs → length (without_page p qs) < length qs
unfolding without_page
shorter p [] is = absurd is
shorter p (q ∷ qs) (inl e) = let rest = shorter_or_same p qs in rw (eq-eqb q p e) (omega arith)
shorter p (q ∷ qs) (inr is) = let rest = shorter p qs is in
    cond_both (q == p) (without_page p qs) (q ∷ without_page p qs) (λ ys. length ys < suc (length qs)) (λ same. omega arith) (λ same. omega arith)

none_of_push : (p : ℕ) (since : List Entry) (e : Entry) → entry_at p (since ++ e ∷ []) ≡ None → (entry_at p since ≡ None) × (e.page ≡ p → ⊥)
none_of_push p since e none = by (entry_at p since) refl
  where
    by : (there : Option Entry) → entry_at p since ≡ there → (there ≡ None) × (e.page ≡ p → ⊥)
    by None is = (refl, eqb-false e.page p (first_none (e.page == p) e None (sym (absent_before p since (e ∷ []) is) ∙ none)).0)
    by (Some x) is = let never : Some x ≡ None = sym (find-append (λ y. y.page == p) since (e ∷ []) ∙ ap (λ o. option_or o (entry_at p (e ∷ []))) is) ∙ none in absurd cc

-- where all are fresh, a fill for each page that is left suffices
settles : {IsFresh : Entry → Type 0} {lacks : List Entry → Option Entry} {pages : List ℕ} → Counts IsFresh lacks pages → (most j : ℕ)
    → (entries before since : List Entry) (left : List ℕ) → IsSplit IsFresh entries before since → All IsFresh before
    → ((p : ℕ) → In p pages → entry_at p since ≡ None → In p left) → length left ≤ j → length since + length left ≤ most
    → lacks (filling lacks most j entries) ≡ None
unfolding filling
settles {lacks = lacks} c most zero entries before since left split fresh covers few room = by (lacks entries) refl
  where
    none : (left : List ℕ) → length left ≤ 0 → (p : ℕ) → In p left → ⊥
    none [] h p is = is
    none (q ∷ left) h p is = absurd (omega arith)

    by : (there : Option Entry) → lacks entries ≡ there → there ≡ None
    by None is = refl
    by (Some e) is = absurd (none left few e.page
        (covers e.page (c.few entries e (all_fresh entries before since split fresh) is) (not_since c entries before since e split is)))
settles {IsFresh = IsFresh} {lacks = lacks} {pages = pages} c most (suc j) entries before since left split fresh covers few room =
    by (lacks entries) refl (λ es bs ss ls. settles c most j es bs ss ls)
  where
    by : (there : Option Entry) → lacks entries ≡ there
        → ((entries before since : List Entry) (left : List ℕ) → IsSplit IsFresh entries before since → All IsFresh before
        → ((p : ℕ) → In p pages → entry_at p since ≡ None → In p left) → length left ≤ j → length since + length left ≤ most
        → lacks (filling lacks most j entries) ≡ None)
        → lacks (next_filled (filling lacks most j) most entries there) ≡ None
    by None is deeper = is
    by (Some e) is deeper =
        let absent : entry_at e.page since ≡ None = not_since c entries before since e split is in
        let among : In e.page left = covers e.page (c.few entries e (all_fresh entries before since split fresh) is) absent in
        let less : length (without_page e.page left) < length left = shorter e.page left among in
        let longer : length (since ++ e ∷ []) ≡ length since + 1 = length-append since (e ∷ []) in
        let held : All IsFresh (still most before since e) = still_fresh IsFresh most before since e fresh in
        deeper (filled most entries e) (still most before since e) (since ++ e ∷ []) (without_page e.page left)
        (split_filled IsFresh most entries before since e split (c.fresh entries e is) absent (omega arith)) held
        (λ p asked none. let parts = none_of_push p since e none in others_stay e.page p left parts.1 (covers p asked parts.0)) (omega arith) (omega arith)

-- a list whose parts fill it has none before, where the later alone would
none_before : (before since : List Entry) (most : ℕ) → length (before ++ since) ≤ most → length since ≡ most → before ≡ []
none_before [] since most few full = refl
none_before (x ∷ before) since most few full = absurd (omega (arith, length-append before since))

-- as many fills as there is room left, and then one for each page, suffice
fills_up : {IsFresh : Entry → Type 0} {lacks : List Entry → Option Entry} {pages : List ℕ} → Counts IsFresh lacks pages → (most more : ℕ) → length pages ≤ more → more ≤ most
    → (j : ℕ) (entries before since : List Entry) → IsSplit IsFresh entries before since → length since + j ≡ most → (j ≡ 0 → before ≡ [])
    → lacks (filling lacks most (j + more) entries) ≡ None
unfolding filling
fills_up {IsFresh = IsFresh} {lacks = lacks} {pages = pages} c most more short room zero entries before since split full empty =
    rw (zero-add more) (settles c most more entries since [] pages
    (record { is = split.is ∙ ap (λ es. es ++ since) (empty refl) ∙ sym (append-nil since); fresh = All-nil IsFresh; apart = λ p e is. absurd cc })
    split.fresh (λ p asked none. asked) short (omega arith))
fills_up {IsFresh = IsFresh} {lacks = lacks} {pages = pages} c most more short room (suc j) entries before since split full empty =
    rw (suc-add j more) (by (lacks entries) refl (λ es bs ss. fills_up c most more short room j es bs ss))
  where
    by : (there : Option Entry) → lacks entries ≡ there
        → ((entries before since : List Entry) → IsSplit IsFresh entries before since → length since + j ≡ most → (j ≡ 0 → before ≡ [])
        → lacks (filling lacks most (j + more) entries) ≡ None)
        → lacks (next_filled (filling lacks most (j + more)) most entries there) ≡ None
    by None is deeper = is
    by (Some e) is deeper =
        let absent : entry_at e.page since ≡ None = not_since c entries before since e split is in
        let longer : length (since ++ e ∷ []) ≡ length since + 1 = length-append since (e ∷ []) in
        let next = split_filled IsFresh most entries before since e split (c.fresh entries e is) absent (omega arith) in
        let few : length (still most before since e ++ (since ++ e ∷ [])) ≤ most = rw next.is at (filled_few most entries e) in
        deeper (filled most entries e) (still most before since e) (since ++ e ∷ []) next (omega arith)
        (λ none. none_before (still most before since e) (since ++ e ∷ []) most few (omega arith))

-- so for each list, however it begins
pub enough : {IsFresh : Entry → Type 0} {lacks : List Entry → Option Entry} {pages : List ℕ} → Counts IsFresh lacks pages → (most more : ℕ) → length pages ≤ more → more ≤ most → 0 < more
    → (entries : List Entry) → lacks (filling lacks most (most + more) entries) ≡ None
enough {IsFresh = IsFresh} c most more short room some entries = fills_up c most more short room most entries entries []
    (record { is = sym (append-nil entries); fresh = All-nil IsFresh; apart = λ p e is. absurd cc }) (zero-add most) (λ none. absurd (omega arith))
