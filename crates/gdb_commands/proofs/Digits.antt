-- Numbers, digit by digit.
use Rattle.std.proofs.Common.{arith, ◌≡◌, ◌∙◌, ℕ, ◌+◌, ◌<◌, ◌≤◌, List, [], ◌∷◌, length, drop, slice_index, refl, ap, sym, Option, Some, None}
use Rattle.std.proofs.lemmas.List.{drop_more, drop_all}
use Rattle.gdb_commands.specs.Numbers.{longer, digits_in, digits_with}

module _ (base most : ℕ) (bytes : List ℕ) where
  step : (n : Option ℕ) (byte : ℕ) (rest : List ℕ) → digits_with base most (longer base most n byte) rest ≡ digits_with base most n (byte ∷ rest)
  unfolding digits_with
  step n byte rest = refl

  end : (n : Option ℕ) → digits_with base most n [] ≡ n
  unfolding digits_with
  end n = refl

  pub digit_more : (n : Option ℕ) (i : ℕ) → i < length bytes
      → digits_with base most (longer base most n (slice_index bytes i)) (drop (i + 1) bytes) ≡ digits_with base most n (drop i bytes)
  digit_more n i few = step n (slice_index bytes i) (drop (i + 1) bytes)
      ∙ ap (λ (rest : List ℕ). digits_with base most n rest) (sym (drop_more bytes i 0 few))

  pub digits_done : (n : Option ℕ) (i : ℕ) → length bytes ≤ i → digits_with base most n (drop i bytes) ≡ n
  digits_done n i all = ap (λ (rest : List ℕ). digits_with base most n rest) (drop_all i bytes all) ∙ end n

pub some_digits : (base most : ℕ) (bytes : List ℕ) → 0 < length bytes → digits_in base most bytes ≡ digits_with base most (Some 0) bytes
some_digits base most [] few = absurd (omega (arith, few))
some_digits base most (byte ∷ bytes) few = refl

pub no_digits : (base most : ℕ) (bytes : List ℕ) → length bytes ≡ 0 → digits_in base most bytes ≡ None
no_digits base most [] none = refl
no_digits base most (byte ∷ bytes) none = absurd (omega (arith, none))

pub ruleset numbers = (digit_more, digits_done, some_digits, no_digits)
