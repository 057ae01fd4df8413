-- Lists of tables: pairs, moves to the front, and writes.
use Rattle.std.proofs.Common.{◌≡◌, ◌≢◌, ℕ, suc, ◌+◌, ◌-◌, ◌<◌, ◌≤◌, ◌⊎◌, inl, inr, List, [], ◌∷◌, ◌++◌, length, get_or, set, take, drop, sym, ap, subst, ◌∙◌, arith, length-set, length-take-le}
use Rattle.std.specs.List.{All, AllPairs, remove}
use Rattle.std.proofs.lemmas.List.{drop_at, get_or-set_same, get_or-set_other, get_or-take, length_push, take_at, take_more}
use Rattle.std.proofs.lemmas.List.Edits.{get_or-remove_above, get_or-remove_below, length-remove}
use Rattle.std.proofs.lemmas.List.Elements.{All-append, All-cons, All-drop, All-from_get_or, All-get_or, All-take}
use Rattle.std.proofs.lemmas.List.Kept.{AllPairs-cons}
use Rattle.std.proofs.lemmas.List.Quantifiers.{all_pairs_remove}
use Rattle.std.proofs.lemmas.Bool.{cases_lt, cases_eq}

module _ {X : Type 0} where
  -- the first element and the others
  pub pairs_first : (R : X → X → Type 0) (x : X) (xs : List X) → AllPairs R (x ∷ xs) → All (R x) xs
  pairs_first R x xs all k d h = all 0 (suc k) d (omega arith) (omega (arith, h))

  pub pairs_rest : (R : X → X → Type 0) (x : X) (xs : List X) → AllPairs R (x ∷ xs) → AllPairs R xs
  pairs_rest R x xs all i j d before h = all (suc i) (suc j) d (omega (arith, before)) (omega (arith, h))

  pub pairs_take : (R : X → X → Type 0) (n : ℕ) (xs : List X) → n ≤ length xs → AllPairs R xs → AllPairs R (take n xs)
  pairs_take R n xs few all i j d before h =
      let below : j < n = omega (arith, h, length-take-le n xs few) in
      subst (λ x. R x (get_or (take n xs) j d)) (sym (get_or-take n xs i d (omega (arith, before, below))))
      (subst (λ y. R (get_or xs i d) y) (sym (get_or-take n xs j d below)) (all i j d before (omega (arith, below, few))))

  -- a part of the list that is turned by one brings its last element to the front
  pub turned : (xs : List X) (i : ℕ) (d : X) → i < length xs
      → (drop (length (take (i + 1) xs) - 1) (take (i + 1) xs) ++ take (length (take (i + 1) xs) - 1) (take (i + 1) xs)) ++ drop (i + 1) xs ≡ get_or xs i d ∷ remove xs i
  turned xs i d h =
      let few = length-take-le i xs (omega (arith, h)) in
      let count : length (take i xs ++ get_or xs i d ∷ []) - 1 ≡ i = omega (arith, length_push (take i xs) (get_or xs i d), few) in
      rw (take_more xs i d h, count, drop_at (take i xs) (get_or xs i d ∷ []) i few, take_at (take i xs) (get_or xs i d ∷ []) i few)
      (let next : i + 1 ≡ suc i = omega arith in ap (λ k. get_or xs i d ∷ (take i xs ++ drop k xs)) next)

  -- what all have after the move, and what pairs have
  pub all_moved : (P : X → Type 0) (xs : List X) (i : ℕ) (d : X) → i < length xs → All P xs → All P (get_or xs i d ∷ remove xs i)
  all_moved P xs i d h all =
      All-cons P (get_or xs i d) (remove xs i) (All-get_or P xs i d h all)
      (All-append P (take i xs) (drop (suc i) xs) (All-take P i xs all) (All-drop P (suc i) xs all))

  pub pairs_moved : (R : X → X → Type 0) (xs : List X) (i : ℕ) (d : X) → i < length xs → ((k : ℕ) → k < i → R (get_or xs k d) (get_or xs i d) → R (get_or xs i d) (get_or xs k d))
      → AllPairs R xs → AllPairs R (get_or xs i d ∷ remove xs i)
  pairs_moved R xs i d h turns all =
      AllPairs-cons R (get_or xs i d) (remove xs i) others (all_pairs_remove R xs i h all)
    where
      at : (k : ℕ) → k < length (remove xs i) → (k < i) ⊎ (i ≤ k) → R (get_or xs i d) (get_or (remove xs i) k d)
      at k few (inl below) = subst (R (get_or xs i d)) (sym (get_or-remove_below xs i d k below h)) (turns k below (all k i d below h))
      at k few (inr above) = subst (R (get_or xs i d)) (sym (get_or-remove_above xs i d k above h)) (all i (k + 1) d (omega (arith, above)) (omega (arith, few, length-remove xs i h)))

      others : All (R (get_or xs i d)) (remove xs i)
      others = All-from_get_or (R (get_or xs i d)) (remove xs i) d (λ k few. at k few (cases_lt k i))

  -- what pairs have after a write of an element that is like the one before
  pub pairs_set : (R : X → X → Type 0) (xs : List X) (i : ℕ) (y : X) → i < length xs → ((d z : X) → R (get_or xs i d) z → R y z) → ((d z : X) → R z (get_or xs i d) → R z y)
      → AllPairs R xs → AllPairs R (set xs i y)
  pairs_set R xs i y inside first second all a b d before h = by (cases_eq a i) (cases_eq b i)
    where
      few : b < length xs
      few = omega (arith, h, length-set xs i y)

      by : (a ≡ i) ⊎ (a ≢ i) → (b ≡ i) ⊎ (b ≢ i) → R (get_or (set xs i y) a d) (get_or (set xs i y) b d)
      by (inl same) (inl same') = absurd (omega (arith, before, same, same'))
      by (inl same) (inr other) =
          subst (λ x. R x (get_or (set xs i y) b d)) (sym (ap (λ k. get_or (set xs i y) k d) same ∙ get_or-set_same xs i y d inside))
          (subst (R y) (sym (get_or-set_other xs i b y d other)) (first d (get_or xs b d) (subst (λ k. R (get_or xs k d) (get_or xs b d)) same (all a b d before few))))
      by (inr other) (inl same) =
          subst (R (get_or (set xs i y) a d)) (sym (ap (λ k. get_or (set xs i y) k d) same ∙ get_or-set_same xs i y d inside))
          (subst (λ x. R x y) (sym (get_or-set_other xs i a y d other)) (second d (get_or xs a d) (subst (λ k. R (get_or xs a d) (get_or xs k d)) same (all a b d before few))))
      by (inr other) (inr other') =
          subst (λ x. R x (get_or (set xs i y) b d)) (sym (get_or-set_other xs i a y d other))
          (subst (R (get_or xs a d)) (sym (get_or-set_other xs i b y d other')) (all a b d before few))
