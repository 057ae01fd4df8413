-- Bytes that were read, before those that the rest gives.
use Rattle.std.proofs.Common.{arith, ◌≡◌, ◌≢◌, ◌∙◌, ℕ, ◌+◌, ◌<◌, ◌≤◌, List, [], ◌∷◌, ◌++◌, length, drop, slice_index, refl, ap, sym, Option, Some, None, false, ◌==◌}
use Rattle.std.proofs.lemmas.List.{append_assoc, append-nil, drop_more, drop_all}
use Rattle.std.proofs.lemmas.Grind.{common_steps}
use Rattle.gdb_packets.specs.Digits.{before, pair_value, unhex}
use Rattle.gdb_packets.specs.Frames.{escape, put_before, turned, unescaped}

abbrev pub joined : List ℕ → Option (List ℕ) → Option (List ℕ)
joined front (Some bytes) = Some (front ++ bytes)
joined front None = None

joined_none : (rest : Option (List ℕ)) → joined [] rest ≡ rest
joined_none (Some bytes) = refl
joined_none None = refl

joined_put : (front : List ℕ) (b : ℕ) (rest : Option (List ℕ)) → joined (front ++ b ∷ []) rest ≡ joined front (put_before b rest)
joined_put front b (Some bytes) = grind (arith, common_steps, append_assoc front (b ∷ []) bytes)
joined_put front b None = refl

joined_before : (front : List ℕ) (b : ℕ) (rest : Option (List ℕ)) → joined (front ++ b ∷ []) rest ≡ joined front (before (Some b) rest)
joined_before front b (Some bytes) = grind (arith, common_steps, append_assoc front (b ∷ []) bytes)
joined_before front b None = refl

-- two digits and the rest
pub unhex_step : (high low : ℕ) (digits : List ℕ) → unhex (high ∷ low ∷ digits) ≡ before (pair_value high low) (unhex digits)
unfolding unhex
unhex_step high low digits = refl

unhex_bad : (high low : ℕ) (digits : List ℕ) → pair_value high low ≡ None → unhex (high ∷ low ∷ digits) ≡ None
unhex_bad high low digits bad = unhex_step high low digits ∙ ap (λ (b : Option ℕ). before b (unhex digits)) bad

unhex_odd : (high : ℕ) → unhex (high ∷ []) ≡ None
unfolding unhex
unhex_odd high = refl

pub unhex_end : unhex [] ≡ Some []
unfolding unhex
unhex_end = refl

unhex_pair : (front digits : List ℕ) (high low b : ℕ) → pair_value high low ≡ Some b
    → joined (front ++ b ∷ []) (unhex digits) ≡ joined front (unhex (high ∷ low ∷ digits))
unhex_pair front digits high low b gives = joined_before front b (unhex digits)
    ∙ ap (λ (rest : Option (List ℕ)). joined front rest) (sym (unhex_step high low digits ∙ ap (λ (v : Option ℕ). before v (unhex digits)) gives))

two_more : (xs : List ℕ) (i : ℕ) → i + 1 < length xs → drop i xs ≡ slice_index xs i ∷ slice_index xs (i + 1) ∷ drop (i + 2) xs
two_more xs i few =
    let next : i + 1 + 1 ≡ i + 2 = omega arith in
    drop_more xs i 0 (omega (arith, few))
    ∙ ap (λ (rest : List ℕ). slice_index xs i ∷ rest) (drop_more xs (i + 1) 0 few)
    ∙ ap (λ (k : ℕ). slice_index xs i ∷ slice_index xs (i + 1) ∷ drop k xs) next

one_left : (xs : List ℕ) (i : ℕ) → i < length xs → length xs < i + 2 → drop i xs ≡ slice_index xs i ∷ []
one_left xs i some few = drop_more xs i 0 some ∙ ap (λ (rest : List ℕ). slice_index xs i ∷ rest) (drop_all (i + 1) xs (omega (arith, few)))

module _ (front digits : List ℕ) (i : ℕ) where
  pub unhex_more : (b : ℕ) → i + 1 < length digits → pair_value (slice_index digits i) (slice_index digits (i + 1)) ≡ Some b
      → joined (front ++ b ∷ []) (unhex (drop (i + 2) digits)) ≡ joined front (unhex (drop i digits))
  unhex_more b few gives = unhex_pair front (drop (i + 2) digits) (slice_index digits i) (slice_index digits (i + 1)) b gives
      ∙ ap (λ (rest : List ℕ). joined front (unhex rest)) (sym (two_more digits i few))

  pub unhex_wrong : i + 1 < length digits → pair_value (slice_index digits i) (slice_index digits (i + 1)) ≡ None
      → joined front (unhex (drop i digits)) ≡ None
  unhex_wrong few bad = ap (λ (rest : List ℕ). joined front (unhex rest)) (two_more digits i few)
      ∙ ap (λ (bytes : Option (List ℕ)). joined front bytes) (unhex_bad (slice_index digits i) (slice_index digits (i + 1)) (drop (i + 2) digits) bad)

  pub unhex_half : i < length digits → length digits < i + 2 → joined front (unhex (drop i digits)) ≡ None
  unhex_half some few = ap (λ (rest : List ℕ). joined front (unhex rest)) (one_left digits i some few)
      ∙ ap (λ (bytes : Option (List ℕ)). joined front bytes) (unhex_odd (slice_index digits i))

  pub unhex_done : length digits ≤ i → joined front (unhex (drop i digits)) ≡ Some front
  unhex_done all = ap (λ (rest : List ℕ). joined front (unhex rest)) (drop_all i digits all)
      ∙ ap (λ (bytes : Option (List ℕ)). joined front bytes) unhex_end ∙ ap (λ (bytes : List ℕ). Some bytes) (append-nil front)

pub unhex_begins : (digits : List ℕ) → joined [] (unhex digits) ≡ unhex digits
unhex_begins digits = joined_none (unhex digits)

-- data of packets
pub plain_step : (b : ℕ) (rest : List ℕ) → (b == escape) ≡ false → unescaped (b ∷ rest) ≡ put_before b (unescaped rest)
unfolding unescaped
plain_step b [] plain = rw (plain) refl
plain_step b (c ∷ rest) plain = rw (plain) refl

pub turned_step : (c : ℕ) (rest : List ℕ) → unescaped (escape ∷ c ∷ rest) ≡ put_before (turned c) (unescaped rest)
unfolding unescaped
turned_step c rest = refl

escape_ends : unescaped (escape ∷ []) ≡ None
unfolding unescaped
escape_ends = refl

pub unescaped_end : unescaped [] ≡ Some []
unfolding unescaped
unescaped_end = refl

module _ (front body : List ℕ) (i : ℕ) where
  pub plain_more : (byte : ℕ) → i < length body → slice_index body i ≡ byte → byte ≢ escape
      → joined (front ++ byte ∷ []) (unescaped (drop (i + 1) body)) ≡ joined front (unescaped (drop i body))
  plain_more byte some is other = joined_put front byte (unescaped (drop (i + 1) body))
      ∙ ap (λ (rest : Option (List ℕ)). joined front rest) (sym (plain_step byte (drop (i + 1) body) (grind (arith, other))))
      ∙ ap (λ (b : ℕ). joined front (unescaped (b ∷ drop (i + 1) body))) (sym is)
      ∙ ap (λ (rest : List ℕ). joined front (unescaped rest)) (sym (drop_more body i 0 some))

  pub turned_more : i + 1 < length body → slice_index body i ≡ escape
      → joined (front ++ turned (slice_index body (i + 1)) ∷ []) (unescaped (drop (i + 2) body)) ≡ joined front (unescaped (drop i body))
  turned_more few is = joined_put front (turned (slice_index body (i + 1))) (unescaped (drop (i + 2) body))
      ∙ ap (λ (rest : Option (List ℕ)). joined front rest) (sym (turned_step (slice_index body (i + 1)) (drop (i + 2) body)))
      ∙ ap (λ (b : ℕ). joined front (unescaped (b ∷ slice_index body (i + 1) ∷ drop (i + 2) body))) (sym is)
      ∙ ap (λ (rest : List ℕ). joined front (unescaped rest)) (sym (two_more body i few))

  pub escape_last : i < length body → length body < i + 2 → slice_index body i ≡ escape → joined front (unescaped (drop i body)) ≡ None
  escape_last some few is = ap (λ (rest : List ℕ). joined front (unescaped rest)) (one_left body i some few)
      ∙ ap (λ (b : ℕ). joined front (unescaped (b ∷ []))) is ∙ ap (λ (bytes : Option (List ℕ)). joined front bytes) escape_ends

  pub unescaped_done : length body ≤ i → joined front (unescaped (drop i body)) ≡ Some front
  unescaped_done all = ap (λ (rest : List ℕ). joined front (unescaped rest)) (drop_all i body all)
      ∙ ap (λ (bytes : Option (List ℕ)). joined front bytes) unescaped_end ∙ ap (λ (bytes : List ℕ). Some bytes) (append-nil front)

pub unescaped_begins : (body : List ℕ) → joined [] (unescaped body) ≡ unescaped body
unescaped_begins body = joined_none (unescaped body)

pub ruleset digits_read = (unhex_more, unhex_wrong, unhex_half, unhex_done, unhex_begins)

pub ruleset escapes_read = (plain_more, turned_more, escape_last, unescaped_done, unescaped_begins)
