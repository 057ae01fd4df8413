-- What a comparison says of bytes and of those that follow them.
use Rattle.std.proofs.Common.{arith, ◌≡◌, ◌≢◌, ◌⊎◌, ℕ, ◌+◌, ◌-◌, ◌<◌, ◌≤◌, ◌∙◌, List, [], ◌∷◌, ◌++◌, length, take, drop, true, false, nat_lt, refl, ap, sym, slice_index}
use Rattle.std.specs.Prelude.{bytes_eq}
use Rattle.std.proofs.lemmas.List.{drop_more, take_all}
use Rattle.std.proofs.lemmas.Grind.{common_steps}
use Rattle.replay.specs.Comparisons.{agreeing, Comparison, Saw}

-- no more bytes agree than there are
pub agreeing_few : (expected bytes : List ℕ) → agreeing expected bytes ≤ length bytes
unfolding agreeing
agreeing_few [] bytes = grind arith
agreeing_few (a ∷ expected) [] = grind arith
agreeing_few (a ∷ expected) (b ∷ bytes) = grind (arith, common_steps, agreeing_few expected bytes)

pub agreeing_within : (expected bytes : List ℕ) → agreeing expected bytes ≤ length expected
unfolding agreeing
agreeing_within [] bytes = grind arith
agreeing_within (a ∷ expected) [] = grind arith
agreeing_within (a ∷ expected) (b ∷ bytes) = grind (arith, common_steps, agreeing_within expected bytes)

-- what follows bytes that differ already changes nothing
pub agreeing_stopped : (expected bytes piece : List ℕ) → agreeing expected bytes < length bytes
    → agreeing expected (bytes ++ piece) ≡ agreeing expected bytes
unfolding agreeing
agreeing_stopped [] [] piece h = grind (arith, h)
agreeing_stopped [] (b ∷ bytes) piece h = refl
agreeing_stopped (a ∷ expected) [] piece h = grind (arith, h)
agreeing_stopped (a ∷ expected) (b ∷ bytes) piece h = grind (arith, common_steps, h, agreeing_stopped expected bytes piece)

-- after bytes that all agree, those that follow are compared with the rest
pub agreeing_more : (expected bytes piece : List ℕ) → agreeing expected bytes ≡ length bytes
    → agreeing expected (bytes ++ piece) ≡ length bytes + agreeing (drop (length bytes) expected) piece
unfolding agreeing
agreeing_more expected [] piece h = grind (arith, common_steps)
agreeing_more [] (b ∷ bytes) piece h = cc
agreeing_more (a ∷ expected) (b ∷ bytes) piece h = grind (arith, common_steps, h, agreeing_more expected bytes piece)

-- bytes are the same where all agree, and they are as many
pub same_bytes : (expected bytes : List ℕ) → agreeing expected bytes ≡ length expected → agreeing expected bytes ≡ length bytes
    → bytes_eq expected bytes ≡ true
unfolding agreeing
same_bytes [] [] all same = refl
same_bytes [] (b ∷ bytes) all same = cc
same_bytes (a ∷ expected) [] all same = cc
same_bytes (a ∷ expected) (b ∷ bytes) all same = grind (arith, common_steps, all, same, same_bytes expected bytes)

pub other_bytes : (expected bytes : List ℕ) → (agreeing expected bytes < length expected) ⊎ (agreeing expected bytes < length bytes)
    → bytes_eq expected bytes ≡ false
unfolding agreeing
other_bytes [] [] h = grind (arith, h)
other_bytes [] (b ∷ bytes) h = refl
other_bytes (a ∷ expected) [] h = refl
other_bytes (a ∷ expected) (b ∷ bytes) h = grind (arith, common_steps, h, other_bytes expected bytes)

pub ruleset verdicts = (same_bytes, other_bytes, agreeing_few, agreeing_within)

-- byte by byte
cons_same : (a b : ℕ) (expected bytes : List ℕ) → a ≡ b → agreeing (a ∷ expected) (b ∷ bytes) ≡ 1 + agreeing expected bytes
unfolding agreeing
cons_same a b expected bytes same = grind (arith, common_steps, same)

cons_other : (a b : ℕ) (expected bytes : List ℕ) → a ≢ b → agreeing (a ∷ expected) (b ∷ bytes) ≡ 0
unfolding agreeing
cons_other a b expected bytes other = grind (arith, common_steps, other)

pub agreeing_same : (i : ℕ) (expected bytes : List ℕ) → i < length expected → i < length bytes → slice_index expected i ≡ slice_index bytes i
    → agreeing (drop i expected) (drop i bytes) ≡ 1 + agreeing (drop (i + 1) expected) (drop (i + 1) bytes)
agreeing_same i expected bytes few some same =
    rw (drop_more expected i 0 few, drop_more bytes i 0 some) (cons_same _ _ _ _ same)

pub agreeing_other : (i : ℕ) (expected bytes : List ℕ) → i < length expected → i < length bytes → slice_index expected i ≢ slice_index bytes i
    → agreeing (drop i expected) (drop i bytes) ≡ 0
agreeing_other i expected bytes few some other =
    rw (drop_more expected i 0 few, drop_more bytes i 0 some) (cons_other _ _ _ _ other)

pub agreeing_none : (expected bytes : List ℕ) → (length expected ≤ 0) ⊎ (length bytes ≤ 0) → agreeing expected bytes ≡ 0
unfolding agreeing
agreeing_none [] bytes h = refl
agreeing_none (a ∷ expected) [] h = refl
agreeing_none (a ∷ expected) (b ∷ bytes) h = grind (arith, h)

pub agreeing_end : (i : ℕ) (expected bytes : List ℕ) → (length expected ≤ i) ⊎ (length bytes ≤ i)
    → agreeing (drop i expected) (drop i bytes) ≡ 0
agreeing_end i expected bytes h = agreeing_none (drop i expected) (drop i bytes) (grind (arith, common_steps, h))

-- the place stays within the bytes that are expected
pub place_within : (place : ℕ) (expected piece : List ℕ) → place ≤ length expected
    → place + agreeing (drop place expected) piece ≤ length expected
place_within place expected piece h = grind (arith, common_steps, h, agreeing_within (drop place expected) piece)

-- a comparison that has seen bytes, after one more piece
pub saw_more : (held : Comparison) (before piece : List ℕ) → held.differs ≡ false → Saw held before
    → Saw (record {
      expected = held.expected;
      place = held.place + agreeing (drop held.place held.expected) piece;
      differs = nat_lt (agreeing (drop held.place held.expected) piece) (length piece);
    }) (before ++ piece)
saw_more held before piece same saw =
    let few = agreeing_few held.expected before in
    let whole : held.place ≡ length before = grind (arith, same, saw.place, saw.differs, few) in
    let more = agreeing_more held.expected before piece (sym saw.place ∙ whole) in
    record {
      place = grind (arith, whole, more);
      differs = grind (arith, common_steps, whole);
    }

pub saw_still : (held : Comparison) (before piece : List ℕ) → held.differs ≡ true → Saw held before → Saw held (before ++ piece)
saw_still held before piece other saw =
    let stopped : agreeing held.expected before < length before = grind (arith, other, saw.place, saw.differs) in
    record {
      place = saw.place ∙ sym (agreeing_stopped held.expected before piece stopped);
      differs = grind (arith, common_steps, other, saw.place, stopped);
    }

-- the bytes from a place on, as a slice has them
pub slice_alike : (place : ℕ) (expected bytes : List ℕ) → place ≤ length expected
    → agreeing (take (length expected - place) (drop place expected)) bytes ≡ agreeing (drop place expected) bytes
slice_alike place expected bytes h =
    ap (λ rest. agreeing rest bytes) (take_all (length expected - place) (drop place expected) (grind (arith, common_steps, h)))

pub ruleset rest_alike = (slice_alike, place_within)

pub ruleset bytes_alike = (agreeing_same, agreeing_other, agreeing_end)

pub ruleset pieces = (saw_more, saw_still)
