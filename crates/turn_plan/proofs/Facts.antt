-- How many turns rounds are, and of whom.
use Rattle.std.proofs.Common.{◌≡◌, ℕ, zero, suc, ◌+◌, ◌*◌, ◌<◌, List, length, length-append, refl, ap, ◌∙◌, sym, mul-zero, mul-suc, arith}
use Rattle.std.specs.Prelude.{map}
use Rattle.std.specs.List.{All, range_with_len, repeat, slice_index}
use Rattle.std.proofs.lemmas.List.Elements.{All-nil, All-cons, All-append, All-get_or}
use Rattle.std.proofs.lemmas.List.FromFn.{length-map-range_with_len}
use Rattle.turn_plan.specs.Turns.{EqualWeightsAreRounds, round_of, rounds_of, weighted_round, weighted_rounds}

length-repeat : (n : ℕ) (xs : List (ℕ × ℕ)) → length (repeat n xs) ≡ length xs * n
length-repeat zero xs = sym (mul-zero (length xs))
length-repeat (suc n) xs = omega (arith, length-append xs (repeat n xs), length-repeat n xs, mul-suc (length xs) n)

pub length-rounds_of : (guests quantum rounds : ℕ) → length (rounds_of guests quantum rounds) ≡ guests * rounds
unfolding rounds_of
length-rounds_of guests quantum rounds = length-repeat rounds (round_of guests quantum) ∙ rw (length-map-range_with_len {X = ℕ × ℕ} (λ g. (g, quantum)) 0 guests) refl

pub length-weighted_rounds : (weights : List ℕ) (quantum rounds : ℕ) → length (weighted_rounds weights quantum rounds) ≡ length weights * rounds
unfolding weighted_rounds
length-weighted_rounds weights quantum rounds =
    length-repeat rounds (weighted_round weights quantum) ∙ rw (length-map-range_with_len {X = ℕ × ℕ} (λ g. (g, slice_index weights g * quantum)) 0 (length weights)) refl

from_place : (P : ℕ × ℕ → Type 0) (turn : ℕ → ℕ × ℕ) (start n : ℕ) → ((g : ℕ) → g < start + n → P (turn g)) → All P (map turn (range_with_len start n))
from_place P turn start zero each = All-nil P
from_place P turn start (suc n) each =
    All-cons P (turn start) _ (each start (omega arith)) (from_place P turn (start + 1) n (λ g below. each g (omega arith)))

each_repeat : (P : ℕ × ℕ → Type 0) (n : ℕ) (xs : List (ℕ × ℕ)) → All P xs → All P (repeat n xs)
each_repeat P zero xs each = All-nil P
each_repeat P (suc n) xs each = All-append P xs (repeat n xs) each (each_repeat P n xs each)

-- what holds of each guest with the quantum holds of each turn
pub each_turn : (P : ℕ × ℕ → Type 0) (guests quantum rounds : ℕ) → ((g : ℕ) → g < guests → P (g, quantum)) → All P (rounds_of guests quantum rounds)
unfolding rounds_of
each_turn P guests quantum rounds each = each_repeat P rounds (round_of guests quantum) (from_place P (λ g. (g, quantum)) 0 guests (λ g below. each g (omega arith)))

-- what holds of each guest with its weight times the quantum holds of each turn
pub each_weighted_turn : (P : ℕ × ℕ → Type 0) (weights : List ℕ) (quantum rounds : ℕ) → ((g : ℕ) → g < length weights → P (g, slice_index weights g * quantum)) → All P (weighted_rounds weights quantum rounds)
unfolding weighted_rounds
each_weighted_turn P weights quantum rounds each =
    each_repeat P rounds (weighted_round weights quantum) (from_place P (λ g. (g, slice_index weights g * quantum)) 0 (length weights) (λ g below. each g (omega arith)))

same_places : (f h : ℕ → ℕ × ℕ) (start n : ℕ) → ((k : ℕ) → k < start + n → f k ≡ h k) → map f (range_with_len start n) ≡ map h (range_with_len start n)
same_places f h start zero each = refl
same_places f h start (suc n) each =
    rw (each start (omega arith), same_places f h (start + 1) n (λ k below. each k (omega arith))) refl

of_equal : (weights : List ℕ) (quantum k : ℕ) → All (λ weight. weight ≡ 1) weights → k < length weights → slice_index weights k * quantum ≡ quantum
of_equal weights quantum k equal below =
    rw (All-get_or (λ weight. weight ≡ 1) weights k 0 below equal) (omega arith)

pub equal_weights : EqualWeightsAreRounds
unfolding weighted_rounds rounds_of
equal_weights weights quantum rounds equal =
    ap (repeat rounds) (same_places (λ g. (g, slice_index weights g * quantum)) (λ g. (g, quantum)) 0 (length weights) (λ k below. ap {B = ℕ × ℕ} (λ steps. (k, steps)) (of_equal weights quantum k equal (omega arith))))
