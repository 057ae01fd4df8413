-- Lists with the element at an index changed.
use Rattle.std.proofs.Common.{◌≡◌, ◌≢◌, ℕ, zero, suc, ◌<◌, List, [], ◌∷◌, length, get_or, refl, ap, arith}
use Rattle.guest_turns.specs.TurnLists.{updated}

pub length_updated : {X : Type 0} (i : ℕ) (change : X → X) (xs : List X) → length (updated i change xs) ≡ length xs
length_updated i change [] = refl
length_updated zero change (x ∷ xs) = refl
length_updated (suc i) change (x ∷ xs) = ap suc (length_updated i change xs)

-- the element there, and the others
pub updated_same : {X : Type 0} (i : ℕ) (change : X → X) (xs : List X) (d : X) → i < length xs
    → get_or (updated i change xs) i d ≡ change (get_or xs i d)
updated_same i change [] d h = absurd (omega arith)
updated_same zero change (x ∷ xs) d h = refl
updated_same (suc i) change (x ∷ xs) d h = updated_same i change xs d (omega arith)

pub updated_other : {X : Type 0} (i j : ℕ) (change : X → X) (xs : List X) (d : X) → i ≢ j
    → get_or (updated i change xs) j d ≡ get_or xs j d
updated_other i j change [] d other = refl
updated_other zero zero change (x ∷ xs) d other = absurd (other refl)
updated_other zero (suc j) change (x ∷ xs) d other = refl
updated_other (suc i) zero change (x ∷ xs) d other = refl
updated_other (suc i) (suc j) change (x ∷ xs) d other = updated_other i j change xs d (λ e. other (ap suc e))

pub updated_none : {X : Type 0} (i : ℕ) (xs : List X) → updated i (λ x. x) xs ≡ xs
updated_none i [] = refl
updated_none zero (x ∷ xs) = refl
updated_none (suc i) (x ∷ xs) = ap (λ ys. x ∷ ys) (updated_none i xs)
