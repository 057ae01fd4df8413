-- The items of an array, beside what they stand for.
use Rattle.std.proofs.Common.{◌≡◌, ◌≤◌, List, [], ◌∷◌, length, suc, None, refl, ap, arith}
use Rattle.toml.specs.View.{items_view}
use Rattle.toml.specs.declared.value.Value.{Value}
use Rattle.run_config.specs.Accept.{count_of}
use Rattle.run_config.specs.Values.{two_items}

pub count_of_items : (vs : List Value) → count_of (items_view vs) ≡ length vs
unfolding count_of
count_of_items [] = refl
count_of_items (v ∷ vs) = ap (λ n. suc n) (count_of_items vs)

pub two_items_of_few : (vs : List Value) → length vs ≤ 1 → two_items (items_view vs) ≡ None
unfolding two_items
two_items_of_few [] h = refl
two_items_of_few (u ∷ []) h = refl
two_items_of_few (u ∷ v ∷ vs) h = absurd (omega arith)

pub two_items_of_more : (vs : List Value) → 3 ≤ length vs → two_items (items_view vs) ≡ None
unfolding two_items
two_items_of_more [] h = refl
two_items_of_more (u ∷ []) h = refl
two_items_of_more (u ∷ v ∷ []) h = absurd (omega arith)
two_items_of_more (u ∷ v ∷ w ∷ vs) h = refl

pub ruleset items = (count_of_items, two_items_of_few, two_items_of_more)
