-- The names in a word, one by one.
use Rattle.std.proofs.Common.{arith, nat_le, nat_lt, cond, not, ◌≡◌, refl, sym, ap, ◌∙◌, ℕ, ◌+◌, ◌-◌, ◌<◌, ◌≤◌, Bool, true, false, List, [], ◌∷◌, Some, None, length, take, drop, length-drop, if◌then◌else◌}
use Rattle.std.proofs.lemmas.Grind.{common_steps}
use Rattle.std.proofs.lemmas.Bool.{le-leb, lt-leb, ltb-false}
use Rattle.std.proofs.lemmas.List.{take_all}
use Rattle.std.proofs.lemmas.List.Sums.{prefix_len-le-length}
use Rattle.std.specs.List.{position, position_or_len}
use Rattle.log_lines.specs.declared.kinds.Kind.{Kind}
use Rattle.log_lines.specs.declared.kinds.Kinds.{Kinds}
use Rattle.log_lines.specs.Kinds.{is_comma, kind_named, kinds_into, kinds_then, kind_names, with_kind}

-- the names from a place on: none behind the end
abbrev pub names_from : ℕ → List ℕ → List (List ℕ)
names_from place word = if nat_le place (length word) then kind_names (drop place word) else []

-- the first name is up to the first comma, and the others are those behind it
abbrev IsFirst : List ℕ → Type 0
IsFirst word = let at = position_or_len is_comma word in kind_names word ≡ take at word ∷ names_from (at + 1) word

pub first_name : (word : List ℕ) → IsFirst word
unfolding kind_names
first_name [] = refl
first_name (c ∷ cs) = by (is_comma c) refl (first_name cs)
  where
    by : (t : Bool) → is_comma c ≡ t → IsFirst cs → IsFirst (c ∷ cs)
    by true e rest = grind (arith, common_steps, e)
    by false e rest = grind (arith, common_steps, e, rest)

-- the first comma is where a search finds one; where it finds none, the name goes to the end
pub comma_found : (word : List ℕ) (i : ℕ) → position is_comma word ≡ Some i → i ≡ position_or_len is_comma word
comma_found word i is = by (nat_lt (position_or_len is_comma word) (length word)) refl is
  where
    by : (b : Bool) → nat_lt (position_or_len is_comma word) (length word) ≡ b → cond b (Some (position_or_len is_comma word)) None ≡ Some i
        → i ≡ position_or_len is_comma word
    by true below is = cc
    by false above is = absurd cc

pub no_comma : (word : List ℕ) → position is_comma word ≡ None → length word ≡ position_or_len is_comma word
no_comma word is = by (nat_lt (position_or_len is_comma word) (length word)) refl is
  where
    by : (b : Bool) → nat_lt (position_or_len is_comma word) (length word) ≡ b → cond b (Some (position_or_len is_comma word)) None ≡ None
        → length word ≡ position_or_len is_comma word
    by true below is = absurd cc
    by false above is = omega (arith, ltb-false (position_or_len is_comma word) (length word) above, prefix_len-le-length (λ c. not (is_comma c)) word)

-- the name that begins at a place within the word, and those behind it
pub name_at : (word : List ℕ) (place at : ℕ) → place ≤ length word
    → at ≡ position_or_len is_comma (take (length word - place) (drop place word))
    → names_from place word ≡ take (place + at - place) (drop place word) ∷ names_from (place + at + 1) word
name_at word place at within is =
    let all = take_all (length word - place) (drop place word) (omega (arith, length-drop place word)) in
    let here : at ≡ position_or_len is_comma (drop place word) = rw all at is in
    let same : place + at - place ≡ at = omega arith in
    ap (λ b. if b then kind_names (drop place word) else []) (le-leb place (length word) within)
    ∙ first_name (drop place word)
    ∙ rw (sym here, same) (ap (λ names. take at (drop place word) ∷ names) (same_rest at))
  where
    same_rest : (at : ℕ) → names_from (at + 1) (drop place word) ≡ names_from (place + at + 1) word
    same_rest at = grind (arith, common_steps, within)

-- none behind the end
pub no_name : (word : List ℕ) (place : ℕ) → length word < place → names_from place word ≡ []
no_name word place past = ap (λ b. if b then kind_names (drop place word) else []) (lt-leb place (length word) past)

-- kinds of names one after another: none where the first is not a kind
pub kinds_into_some : (name : List ℕ) (names : List (List ℕ)) (kinds : Kinds) (kind : Kind) → kind_named name ≡ Some kind
    → kinds_into (name ∷ names) kinds ≡ kinds_into names (with_kind kinds kind)
unfolding kinds_into
kinds_into_some name names kinds kind is = ap (kinds_then (kinds_into names) kinds) is

pub kinds_into_none : (name : List ℕ) (names : List (List ℕ)) (kinds : Kinds) → kind_named name ≡ None
    → kinds_into (name ∷ names) kinds ≡ None
unfolding kinds_into
kinds_into_none name names kinds is = ap (kinds_then (kinds_into names) kinds) is
