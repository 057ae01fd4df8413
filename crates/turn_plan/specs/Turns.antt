-- Lists of turns: pairs of a guest's number, from 0 on, and the steps of its turn.
use Rattle.std.specs.Prelude.{◌≡◌, ℕ, ◌*◌, List, length, map}
use Rattle.std.specs.List.{All, range_with_len, repeat, slice_index}

-- one round: each guest in order, with that many steps (own)
abbrev pub round_of : ℕ → ℕ → List (ℕ × ℕ)
round_of guests quantum = map (λ guest. (guest, quantum)) (range_with_len 0 guests)

-- that many rounds, one after the other (own)
unfoldable pub rounds_of : ℕ → ℕ → ℕ → List (ℕ × ℕ)
rounds_of guests quantum rounds = repeat rounds (round_of guests quantum)

-- one round of guests with these weights: each in order, with its weight times that many steps (own)
abbrev pub weighted_round : List ℕ → ℕ → List (ℕ × ℕ)
weighted_round weights quantum =
    map (λ guest. (guest, slice_index weights guest * quantum)) (range_with_len 0 (length weights))

-- that many of these rounds, one after the other (own)
unfoldable pub weighted_rounds : List ℕ → ℕ → ℕ → List (ℕ × ℕ)
weighted_rounds weights quantum rounds = repeat rounds (weighted_round weights quantum)

-- where each weight is 1, weighted rounds are rounds
abbrev pub EqualWeightsAreRounds : Type 0
EqualWeightsAreRounds = (weights : List ℕ) (quantum rounds : ℕ) → All (λ weight. weight ≡ 1) weights
    → weighted_rounds weights quantum rounds ≡ rounds_of (length weights) quantum rounds
