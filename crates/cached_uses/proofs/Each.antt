-- The uses of entries that are read one by one.
use Rattle.std.proofs.Common.{◌≡◌, sym, ap, ◌∙◌, ℕ, ◌+◌, ◌<◌, List, [], ◌∷◌, ◌++◌, append_assoc, get_or, length, take}
use Rattle.std.proofs.lemmas.List.{append-nil, take_more}
use Rattle.std.proofs.lemmas.List.Concat.{flat_map-append}
use Rattle.std.specs.List.{flat_map}
use Rattle.run_log.specs.declared.uses.Use.{Use}

module _ (f : ℕ → List Use) (xs : List ℕ) where
  next_part : (i d : ℕ) → i < length xs → flat_map f (take (i + 1) xs) ≡ flat_map f (take i xs) ++ f (get_or xs i d)
  next_part i d inside =
      ap (flat_map f) (take_more xs i d inside) ∙ flat_map-append f (take i xs) (get_or xs i d ∷ [])
      ∙ ap (λ (last : List Use). flat_map f (take i xs) ++ last) (append-nil (f (get_or xs i d)))

  pub each_more : (old before after : List Use) (i d : ℕ) → i < length xs → before ≡ old ++ flat_map f (take i xs)
      → after ≡ before ++ f (get_or xs i d) → after ≡ old ++ flat_map f (take (i + 1) xs)
  each_more old before after i d inside so_far next =
      next ∙ ap (λ us. us ++ f (get_or xs i d)) so_far ∙ append_assoc old (flat_map f (take i xs)) (f (get_or xs i d))
      ∙ ap (λ us. old ++ us) (sym (next_part i d inside))

pub ruleset each_rules = (each_more)
