-- A turn more in a round, and a round more.
use Rattle.std.proofs.Common.{◌≡◌, ℕ, zero, suc, ◌+◌, ◌*◌, ◌<◌, ◌≤◌, ◌^◌, List, [], ◌∷◌, ◌++◌, map, ap, ◌∙◌, sym, append_assoc, append-nil, add-one, mul-le-mul_left, arith}
use Rattle.std.specs.List.{range_with_len, repeat, slice_index}
use Rattle.std.proofs.lemmas.List.FromFn.{map-range_with_len_more}
use Rattle.turn_plan.specs.Turns.{round_of, rounds_of, weighted_round, weighted_rounds}

pub place_more : (turn : ℕ → ℕ × ℕ) (turns start : List (ℕ × ℕ)) (guest : ℕ) → turns ≡ start ++ map turn (range_with_len 0 guest) → turns ++ turn guest ∷ [] ≡ start ++ map turn (range_with_len 0 (guest + 1))
place_more turn turns start guest e =
    rw e (append_assoc start _ _ ∙ ap (λ more. start ++ more) (sym (map-range_with_len_more turn 0 guest guest (omega arith))))

pub turn_more : (turns start : List (ℕ × ℕ)) (guest quantum : ℕ) → turns ≡ start ++ round_of guest quantum → turns ++ (guest, quantum) ∷ [] ≡ start ++ round_of (guest + 1) quantum
turn_more turns start guest quantum e = place_more (λ g. (g, quantum)) turns start guest e

pub weighted_turn_more : (turns start : List (ℕ × ℕ)) (weights : List ℕ) (guest quantum : ℕ) → turns ≡ start ++ map (λ g. (g, slice_index weights g * quantum)) (range_with_len 0 guest)
    → turns ++ (guest, slice_index weights guest * quantum) ∷ [] ≡ start ++ map (λ g. (g, slice_index weights g * quantum)) (range_with_len 0 (guest + 1))
weighted_turn_more turns start weights guest quantum e = place_more (λ g. (g, slice_index weights g * quantum)) turns start guest e

repeat_more : (n : ℕ) (xs : List (ℕ × ℕ)) → repeat n xs ++ xs ≡ xs ++ repeat n xs
repeat_more zero xs = sym (append-nil xs)
repeat_more (suc n) xs = append_assoc xs (repeat n xs) xs ∙ ap (λ more. xs ++ more) (repeat_more n xs)

pub round_more : (turns : List (ℕ × ℕ)) (guests quantum rounds : ℕ) → turns ≡ rounds_of guests quantum rounds → turns ++ round_of guests quantum ≡ rounds_of guests quantum (rounds + 1)
unfolding rounds_of
round_more turns guests quantum rounds e = rw (e, add-one rounds) (repeat_more rounds (round_of guests quantum))

pub rounds_all : (turns : List (ℕ × ℕ)) (guests quantum done rounds : ℕ) → turns ≡ rounds_of guests quantum done → rounds ≤ done → done ≤ rounds → turns ≡ rounds_of guests quantum rounds
rounds_all turns guests quantum done rounds e least most =
    let same : done ≡ rounds = omega arith in
    e ∙ ap (rounds_of guests quantum) same

pub weighted_round_more : (turns : List (ℕ × ℕ)) (weights : List ℕ) (quantum rounds : ℕ) → turns ≡ weighted_rounds weights quantum rounds → turns ++ weighted_round weights quantum ≡ weighted_rounds weights quantum (rounds + 1)
unfolding weighted_rounds
weighted_round_more turns weights quantum rounds e = rw (e, add-one rounds) (repeat_more rounds (weighted_round weights quantum))

pub weighted_rounds_all : (turns : List (ℕ × ℕ)) (weights : List ℕ) (quantum done rounds : ℕ) → turns ≡ weighted_rounds weights quantum done → rounds ≤ done → done ≤ rounds → turns ≡ weighted_rounds weights quantum rounds
weighted_rounds_all turns weights quantum done rounds e least most =
    let same : done ≡ rounds = omega arith in
    e ∙ ap (weighted_rounds weights quantum) same

pub few_guests : (guests done rounds : ℕ) → guests * rounds ≤ 2 ^ 20 → done < rounds → guests ≤ 2 ^ 20
few_guests guests done rounds few more = omega (arith, mul-le-mul_left {m = 1} {n = rounds} guests (omega arith))

pub ruleset turns = (turn_more, round_more, rounds_all, few_guests)

pub ruleset weighted = (weighted_round_more, weighted_rounds_all, few_guests)
