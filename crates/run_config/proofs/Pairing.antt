-- Pairs one after the other.
use Rattle.std.proofs.Common.{◌≡◌, ℕ, ◌+◌, ◌<◌, ◌≤◌, List, [], ◌∷◌, ◌++◌, length, drop, get_or, Option, Some, None, option_map, refl, ap, sym, ◌∙◌, append_assoc, append-nil}
use Rattle.std.proofs.lemmas.List.{drop_all}
use Rattle.toml.specs.Data.{Data, Items, item}
use Rattle.toml.specs.View.{view, items_view}
use Rattle.toml.specs.declared.value.Value.{Value}
use Rattle.toml.proofs.Views.{items_view-drop}
use Rattle.run_config.specs.Values.{◌>>=◌, pair_within, pairs_within}

-- what all pairs are, where these are the first ones, and the others are to be read from these items
abbrev pub goes_on : ℕ → ℕ → List (ℕ × ℕ) → Items → Option (List (ℕ × ℕ))
goes_on a b done rest = option_map (λ more. done ++ more) (pairs_within a b rest)

goes_on_item : (a b : ℕ) (done : List (ℕ × ℕ)) (value : Data) (rest : Items) (pair : ℕ × ℕ) → pair_within a b value ≡ Some pair → goes_on a b done (item value rest) ≡ goes_on a b (done ++ pair ∷ []) rest
unfolding pairs_within
goes_on_item a b done value rest pair e = rw e (with_rest (pairs_within a b rest))
  where
    with_rest : (o : Option (List (ℕ × ℕ))) → option_map (λ more. done ++ more) (o >>= (λ pairs. Some (pair ∷ pairs))) ≡ option_map (λ more. (done ++ pair ∷ []) ++ more) o
    with_rest None = refl
    with_rest (Some more) = ap (λ all. Some all) (sym (append_assoc done (pair ∷ []) more))

stops_at_item : (a b : ℕ) (value : Data) (rest : Items) → pair_within a b value ≡ None → pairs_within a b (item value rest) ≡ None
unfolding pairs_within
stops_at_item a b value rest e = rw e

pub pair_more : (a b : ℕ) (all done : List (ℕ × ℕ)) (values : List Value) (i : ℕ) (value : Value) (pair : ℕ × ℕ) → i < length values → value ≡ get_or values i value
    → pair_within a b (view value) ≡ Some pair → all ≡ done ++ pair ∷ [] → goes_on a b done (items_view (drop i values)) ≡ goes_on a b all (items_view (drop (i + 1) values))
pair_more a b all done values i value pair within same e push =
    rw push (rw (items_view-drop values i value within) (goes_on_item a b done _ _ pair (ap (λ v. pair_within a b (view v)) (sym same) ∙ e)))

pub no_pair : (a b : ℕ) (done : List (ℕ × ℕ)) (values : List Value) (i : ℕ) (d : Value) → i < length values → pair_within a b (view (get_or values i d)) ≡ None
    → goes_on a b done (items_view (drop i values)) ≡ None
no_pair a b done values i d within e = rw (items_view-drop values i d within) (ap (option_map (λ more. done ++ more)) (stops_at_item a b _ _ e))

pub all_pairs : (a b : ℕ) (done : List (ℕ × ℕ)) (values : List Value) (i : ℕ) → length values ≤ i → goes_on a b done (items_view (drop i values)) ≡ Some done
unfolding pairs_within
all_pairs a b done values i past = rw (drop_all i values past) (ap (λ all. Some all) (append-nil done))
