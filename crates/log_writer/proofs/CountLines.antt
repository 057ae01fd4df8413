-- Lines of counts in order, with one put in its place.
use Rattle.std.proofs.Common.{arith, ◌≡◌, ◌∙◌, refl, sym, subst, ap, ap₂, ℕ, zero, suc, ◌<◌, Bool, true, false, Option, Some, None, List, [], ◌∷◌, map, length, get_or, Contains, Ordering, Less, Equal, Greater, cond}
use Rattle.std.specs.Ordering.{is_eq, match_ordering}
use Rattle.std.specs.BTreeMap.{insert_entry, is_at}
use Rattle.std.specs.List.{All, AllPairs}
use Rattle.std.specs.Map.{lookup, values_of}
use Rattle.std.proofs.lemmas.List.Elements.{All-cons, All-nil, All-tail}
use Rattle.std.proofs.lemmas.List.Kept.{AllPairs-cons}
use Rattle.log_writer.specs.declared.counts.Place.{Place}
use Rattle.log_lines.specs.declared.lines.CountKey.{CountKey}
use Rattle.log_lines.specs.declared.lines.CountLine.{CountLine}
use Rattle.log_lines.specs.CountKeys.{IsBefore}
use Rattle.log_writer.specs.Counting.{count_at, place_cmp, count_place, with_places}
use Rattle.log_writer.proofs.CountOrder.{Compare, compare, is_key, key_cmp, key_is, later_key, never_before, own_key, then_before}

abbrev pub put_in : List CountLine → CountLine → List CountLine
put_in [] line = line ∷ []
put_in (c ∷ cs) line = match_ordering (key_cmp line.key c.key) (line ∷ c ∷ cs) (line ∷ cs) (c ∷ put_in cs line)

-- so does a map
pub inserted : (cs : List CountLine) (line : CountLine) → insert_entry place_cmp (with_places cs) (count_place line.key) line ≡ with_places (put_in cs line)
inserted [] line = refl
inserted (c ∷ cs) line = by (key_cmp line.key c.key) (compare line.key c.key) (inserted cs line)
  where
    others : List (Place × CountLine)
    others = insert_entry place_cmp (with_places cs) (count_place line.key) line

    by : (o : Ordering) → Compare o line.key c.key → others ≡ with_places (put_in cs line)
        → match_ordering o ((count_place line.key, line) ∷ with_places (c ∷ cs)) ((count_place c.key, line) ∷ with_places cs) ((count_place c.key, c) ∷ others)
        ≡ with_places (match_ordering o (line ∷ c ∷ cs) (line ∷ cs) (c ∷ put_in cs line))
    by Less order more = refl
    by Equal order more = ap (λ (key : CountKey). (count_place key, line) ∷ with_places cs) (sym order)
    by Greater order more = ap (λ (l : List (Place × CountLine)). (count_place c.key, c) ∷ l) more

-- and finds them
abbrev pub count_in : Option CountLine → ℕ
count_in None = 0
count_in (Some c) = c.count

pub found : (cs : List CountLine) (place : Place) → count_in (lookup (is_at (place_cmp place)) (with_places cs)) ≡ count_at cs place
found [] place = refl
found (c ∷ cs) place = by (is_eq (place_cmp place (count_place c.key))) (found cs place)
  where
    by : (here : Bool) → count_in (lookup (is_at (place_cmp place)) (with_places cs)) ≡ count_at cs place
        → count_in (cond here (Some c) (lookup (is_at (place_cmp place)) (with_places cs))) ≡ cond here c.count (count_at cs place)
    by true more = refl
    by false more = more

-- in a map whose entries are lines at their places
pub found_in : (es : List (Place × CountLine)) (cs now : List CountLine) (place : Place) → es ≡ with_places cs → cs ≡ now
    → count_in (lookup (is_at (place_cmp place)) es) ≡ count_at now place
found_in es cs now place are same =
    ap (λ (l : List (Place × CountLine)). count_in (lookup (is_at (place_cmp place)) l)) are ∙ found cs place
    ∙ ap (λ (l : List CountLine). count_at l place) same

values_placed : (cs : List CountLine) → values_of (with_places cs) ≡ cs
values_placed [] = refl
values_placed (c ∷ cs) = ap (λ (l : List CountLine). c ∷ l) (values_placed cs)

pub lines_in : (es : List (Place × CountLine)) (cs : List CountLine) → es ≡ with_places cs → values_of es ≡ cs
lines_in es cs are = ap (λ (l : List (Place × CountLine)). values_of l) are ∙ values_placed cs

pub stay_placed : (es : List (Place × CountLine)) (cs : List CountLine) → es ≡ with_places cs → es ≡ with_places (values_of es)
stay_placed es cs are = are ∙ ap with_places (sym (lines_in es cs are))

-- after one is inserted
pub inserted_in : (es new : List (Place × CountLine)) (cs : List CountLine) (place : Place) (line : CountLine) → es ≡ with_places cs → place ≡ count_place line.key
    → new ≡ insert_entry place_cmp es place line → new ≡ with_places (put_in cs line)
inserted_in es new cs place line are at puts =
    puts ∙ ap₂ (λ (l : List (Place × CountLine)) (p : Place). insert_entry place_cmp l p line) are at ∙ inserted cs line

-- how often the lines then say
abbrev pub count_of : List CountLine → CountKey → ℕ
count_of cs key = count_at cs (count_place key)

pub put_counts : (cs : List CountLine) (line : CountLine) (q : CountKey) → count_of (put_in cs line) q ≡ cond (is_key q line.key) line.count (count_of cs q)
put_counts [] line q = refl
put_counts (c ∷ cs) line q = by (key_cmp line.key c.key) (compare line.key c.key) (put_counts cs line q)
  where
    equal : (s t : Bool) → s ≡ t → cond s line.count (count_of cs q) ≡ cond s line.count (cond t c.count (count_of cs q))
    equal true t is = refl
    equal false false is = refl
    equal false true is = absurd cc

    greater : (s t : Bool) → (s ≡ true → t ≡ true → ⊥) → count_of (put_in cs line) q ≡ cond s line.count (count_of cs q)
        → cond t c.count (count_of (put_in cs line) q) ≡ cond s line.count (cond t c.count (count_of cs q))
    greater true true apart more = absurd (apart refl refl)
    greater false true apart more = refl
    greater true false apart more = more
    greater false false apart more = more

    apart : IsBefore c.key line.key → is_key q line.key ≡ true → is_key q c.key ≡ true → ⊥
    apart before one other =
        never_before c.key (subst (λ (key : CountKey). IsBefore c.key key) (sym (key_is q line.key one) ∙ key_is q c.key other) before)

    by : (o : Ordering) → Compare o line.key c.key → count_of (put_in cs line) q ≡ cond (is_key q line.key) line.count (count_of cs q)
        → count_of (match_ordering o (line ∷ c ∷ cs) (line ∷ cs) (c ∷ put_in cs line)) q
        ≡ cond (is_key q line.key) line.count (count_of (c ∷ cs) q)
    by Less order more = refl
    by Equal order more = equal (is_key q line.key) (is_key q c.key) (ap (is_key q) order)
    by Greater order more = greater (is_key q line.key) (is_key q c.key) (apart order) more

-- what holds of each line, and their order
pub all_put : (P : CountLine → Type 0) (cs : List CountLine) (line : CountLine) → All P cs → P line → All P (put_in cs line)
all_put P [] line all one = All-cons P line [] one (All-nil P)
all_put P (c ∷ cs) line all one = by (key_cmp line.key c.key) (all_put P cs line (All-tail P c cs all) one)
  where
    by : (o : Ordering) → All P (put_in cs line) → All P (match_ordering o (line ∷ c ∷ cs) (line ∷ cs) (c ∷ put_in cs line))
    by Less more = All-cons P line (c ∷ cs) one all
    by Equal more = All-cons P line cs one (All-tail P c cs all)
    by Greater more = All-cons P c (put_in cs line) (all 0 c (omega arith)) more

abbrev pub IsEarlier : CountLine → CountLine → Type 0
IsEarlier a b = IsBefore a.key b.key

tail_pairs : (c : CountLine) (cs : List CountLine) → AllPairs IsEarlier (c ∷ cs) → AllPairs IsEarlier cs
tail_pairs c cs pairs = λ i j d before within. pairs (suc i) (suc j) d (omega (arith, before)) (omega (arith, within))

first_pairs : (c : CountLine) (cs : List CountLine) → AllPairs IsEarlier (c ∷ cs) → All (IsEarlier c) cs
first_pairs c cs pairs = λ i d within. pairs 0 (suc i) d (omega arith) (omega (arith, within))

pub put_in_order : (cs : List CountLine) (line : CountLine) → AllPairs IsEarlier cs → AllPairs IsEarlier (put_in cs line)
put_in_order [] line pairs = AllPairs-cons IsEarlier line [] (All-nil (IsEarlier line)) pairs
put_in_order (c ∷ cs) line pairs = by (key_cmp line.key c.key) (compare line.key c.key) (put_in_order cs line (tail_pairs c cs pairs))
  where
    after : All (IsEarlier c) cs
    after = first_pairs c cs pairs

    by : (o : Ordering) → Compare o line.key c.key → AllPairs IsEarlier (put_in cs line)
        → AllPairs IsEarlier (match_ordering o (line ∷ c ∷ cs) (line ∷ cs) (c ∷ put_in cs line))
    by Less order more = AllPairs-cons IsEarlier line (c ∷ cs)
        (All-cons (IsEarlier line) c cs order (λ i d within. then_before line.key c.key (get_or cs i d).key order (after i d within))) pairs
    by Equal order more = AllPairs-cons IsEarlier line cs
        (λ i d within. subst (λ (key : CountKey). IsBefore key (get_or cs i d).key) (sym order) (after i d within)) (tail_pairs c cs pairs)
    by Greater order more = AllPairs-cons IsEarlier c (put_in cs line) (all_put (IsEarlier c) cs line after order) more

-- lines in order that count something say how often
no_count : (n : ℕ) (key : CountKey) → (0 < n → Contains (map (λ (c : CountLine). c.key) []) key) → 0 ≡ n
no_count zero key has = refl
no_count (suc n) key has = none (has (omega arith))
  where
    none : Contains (map (λ (c : CountLine). c.key) []) key → 0 ≡ suc n
    none (j, inside, is) = absurd (omega (arith, inside))

pub count_is : (n : ℕ) (key : CountKey) (cs : List CountLine) → All (λ c. key ≡ c.key → c.count ≡ n) cs
    → (0 < n → Contains (map (λ c. c.key) cs) key) → count_of cs key ≡ n
count_is n key [] all has = no_count n key has
count_is n key (c ∷ cs) all has = by (is_key key c.key) refl (count_is n key cs (All-tail (λ c. key ≡ c.key → c.count ≡ n) c cs all))
  where
    later : is_key key c.key ≡ false → Contains (c.key ∷ map (λ c. c.key) cs) key → Contains (map (λ c. c.key) cs) key
    later other (zero, inside, is) = absurd (differ (sym (ap (is_key key) is ∙ own_key key) ∙ other))
      where
        differ : true ≡ false → ⊥
        differ same = absurd cc
    later other (suc j, inside, is) = (j, omega (arith, inside), is)

    by : (here : Bool) → is_key key c.key ≡ here → ((0 < n → Contains (map (λ c. c.key) cs) key) → count_of cs key ≡ n)
        → cond here c.count (count_of cs key) ≡ n
    by true is others = all 0 c (omega arith) (key_is key c.key is)
    by false is others = others (λ some. later is (has some))

pub own_count : (cs : List CountLine) (i : ℕ) (d : CountLine) → AllPairs IsEarlier cs → i < length cs
    → count_of cs (get_or cs i d).key ≡ (get_or cs i d).count
own_count [] i d pairs within = absurd (omega (arith, within))
own_count (c ∷ cs) zero d pairs within = rw (own_key c.key) refl
own_count (c ∷ cs) (suc i) d pairs within =
    let there : i < length cs = omega (arith, within) in
    rw (later_key c.key (get_or cs i d).key (first_pairs c cs pairs i d there)) (own_count cs i d (tail_pairs c cs pairs) there)

pub has_key : (cs : List CountLine) (key : CountKey) → 0 < count_of cs key → Contains (map (λ c. c.key) cs) key
has_key [] key some = absurd (omega (arith, some))
has_key (c ∷ cs) key some = by (is_key key c.key) refl (has_key cs key) some
  where
    later : Contains (map (λ c. c.key) cs) key → Contains (c.key ∷ map (λ c. c.key) cs) key
    later (j, inside, is) = (suc j, omega (arith, inside), is)

    by : (here : Bool) → is_key key c.key ≡ here → (0 < count_of cs key → Contains (map (λ c. c.key) cs) key)
        → 0 < cond here c.count (count_of cs key) → Contains (c.key ∷ map (λ c. c.key) cs) key
    by true is others some = (0, omega arith, sym (key_is key c.key is))
    by false is others some = later (others some)
