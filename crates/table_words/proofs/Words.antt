-- Doublewords of memory, read and written.
use Rattle.std.proofs.Common.{◌≡◌, ◌≢◌, ℕ, zero, suc, ◌+◌, ◌*◌, ◌/◌, ◌<◌, ◌≤◌, ◌^◌, ◌⊎◌, inl, inr, true, ◌==◌, if◌then◌else◌, List, length, refl, sym, subst, ◌∙◌, arith}
use Rattle.std.proofs.lemmas.Bool.{cases_lt, eq-eqb, ne_eqb}
use Rattle.byteorder.specs.Endian.{little_bytes}
use Rattle.byteorder.specs.Numbers.{length-bytes_low_first}
use Rattle.arch_defs.specs.Frames.{Frames, Only, Same}
use Rattle.arch_defs.proofs.FrameSets.{load_kept, only_pasted}
use Rattle.arch_defs.proofs.Pastes.{load_apart, load_behind, load_pasted}
use Rattle.table_words.specs.Words.{changed, changed_below, doubleword_at, with_word}

eight : (value : ℕ) → length (little_bytes 8 value) ≡ 8
eight value = length-bytes_low_first 0 8 value

pub word_here : (memory : List ℕ) (i value : ℕ) → 8 * i + 8 ≤ length memory → value < 2 ^ 64 → doubleword_at (with_word memory i value) i ≡ value
word_here memory i value fits small = load_pasted memory (8 * i) 8 value (omega arith) small

pub word_there : (memory : List ℕ) (i value j : ℕ) → 8 * i + 8 ≤ length memory → j ≢ i → doubleword_at (with_word memory i value) j ≡ doubleword_at memory j
word_there memory i value j fits other = by (cases_lt j i)
  where
    by : (j < i) ⊎ (i ≤ j) → doubleword_at (with_word memory i value) j ≡ doubleword_at memory j
    by (inl before) = load_apart memory (8 * i) (little_bytes 8 value) (8 * j) 8 (omega (arith, eight value)) (omega arith)
    by (inr from) =
        let after : i < j = omega arith in
        load_behind memory (8 * i) (little_bytes 8 value) (8 * j) 8 (omega (arith, eight value)) (omega (arith, eight value))

-- the frame of a doubleword is that of its bytes
pub same_frame : (i at : ℕ) → 8 * i ≤ at → at < 8 * i + 8 → i / 512 ≡ at / 4096
same_frame i at from to = omega arith

pub only_word : (frames : Frames) (memory : List ℕ) (i value : ℕ) → 8 * i + 8 ≤ length memory → frames (i / 512) ≡ true → Only frames memory (with_word memory i value)
only_word frames memory i value fits named =
    only_pasted frames memory (8 * i) (little_bytes 8 value) (omega (arith, eight value))
    (λ at from to. subst (λ f. frames f ≡ true) (same_frame i at from (omega (arith, eight value, to))) named)

pub word_kept : (frames : Frames) (old new : List ℕ) (i : ℕ) → Same frames old new → frames (i / 512) ≡ true → doubleword_at new i ≡ doubleword_at old i
word_kept frames old new i same named =
    load_kept frames old new (8 * i) 8 same (λ at from to. subst (λ f. frames f ≡ true) (same_frame i at from to) named)

-- how many doublewords differ
pub same_or : (a b : ℕ) → (a ≡ b) ⊎ (a ≢ b)
same_or a b = grind arith

unfoldable differs : ℕ → ℕ → ℕ
differs a b = if a == b then 0 else 1

differs_same : (a b : ℕ) → a ≡ b → differs a b ≡ 0
unfolding differs
differs_same a b is = rw (eq-eqb a b is) refl

differs_most : (a b : ℕ) → differs a b ≤ 1
unfolding differs
differs_most a b = by (same_or a b)
  where
    by : (a ≡ b) ⊎ (a ≢ b) → (if a == b then 0 else 1) ≤ 1
    by (inl is) = rw (eq-eqb a b is) (omega arith)
    by (inr other) = rw (ne_eqb a b other) (omega arith)

differs_then : (a b c : ℕ) → differs c a ≤ differs b a + differs c b
unfolding differs
differs_then a b c = by (same_or c a) (same_or b a)
  where
    by : (c ≡ a) ⊎ (c ≢ a) → (b ≡ a) ⊎ (b ≢ a) → (if c == a then 0 else 1) ≤ (if b == a then 0 else 1) + (if c == b then 0 else 1)
    by (inl is) way = rw (eq-eqb c a is) (omega arith)
    by (inr other) (inr other') = rw (ne_eqb c a other, ne_eqb b a other') (omega arith)
    by (inr other) (inl is) = rw (ne_eqb c a other, eq-eqb b a is, ne_eqb c b (λ e. other (e ∙ is))) (omega arith)

below_suc : (n : ℕ) (old new : List ℕ) → changed_below (suc n) old new ≡ differs (doubleword_at new n) (doubleword_at old n) + changed_below n old new
unfolding changed_below differs
below_suc n old new = refl

below_zero : (old new : List ℕ) → changed_below 0 old new ≡ 0
unfolding changed_below
below_zero old new = refl

below_none : (n : ℕ) (old new : List ℕ) → ((i : ℕ) → i < n → doubleword_at new i ≡ doubleword_at old i) → changed_below n old new ≡ 0
below_none zero old new same = below_zero old new
below_none (suc n) old new same =
    let rest = below_none n old new (λ i h. same i (omega (arith, h))) in
    let first = differs_same (doubleword_at new n) (doubleword_at old n) (same n (omega arith)) in
    omega (arith, below_suc n old new, rest, first)

below_one : (n i : ℕ) (old new : List ℕ) → ((j : ℕ) → j ≢ i → doubleword_at new j ≡ doubleword_at old j) → changed_below n old new ≤ 1
below_one zero i old new same = omega (arith, below_none 0 old new (λ j h. absurd (omega (arith, h))))
below_one (suc n) i old new same = by (below_one n i old new same) (same_or n i)
  where
    by : changed_below n old new ≤ 1 → (n ≡ i) ⊎ (n ≢ i) → changed_below (suc n) old new ≤ 1
    by few (inl is) =
        let rest = below_none n old new (λ j h. same j (λ e. omega (arith, e, h, is))) in
        omega (arith, below_suc n old new, rest, differs_most (doubleword_at new n) (doubleword_at old n))
    by few (inr other) =
        omega (arith, below_suc n old new, few, differs_same (doubleword_at new n) (doubleword_at old n) (same n other))

below_then : (n : ℕ) (a b c : List ℕ) → changed_below n a c ≤ changed_below n a b + changed_below n b c
below_then zero a b c = omega (arith, below_zero a c)
below_then (suc n) a b c =
    omega (arith, below_suc n a c, below_suc n a b, below_suc n b c, below_then n a b c, differs_then (doubleword_at a n) (doubleword_at b n) (doubleword_at c n))

pub changed_none : (memory : List ℕ) → changed memory memory ≡ 0
changed_none memory = below_none (length memory / 8) memory memory (λ i h. refl)

pub changed_one : (memory : List ℕ) (i value : ℕ) → 8 * i + 8 ≤ length memory → changed memory (with_word memory i value) ≤ 1
changed_one memory i value fits = below_one (length memory / 8) i memory (with_word memory i value) (λ j other. word_there memory i value j fits other)

pub changed_then : (a b c : List ℕ) → length b ≡ length a → changed a c ≤ changed a b + changed b c
changed_then a b c same = subst (λ n. changed_below (length a / 8) a c ≤ changed_below (length a / 8) a b + changed_below (n / 8) b c) (sym same) (below_then (length a / 8) a b c)
