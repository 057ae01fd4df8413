-- The steps of a guest's own turns, one turn after the other.
use Rattle.std.proofs.Common.{arith, ◌≡◌, ◌≢◌, ◌∙◌, ℕ, ◌+◌, ◌<◌, ◌==◌, List, [], ◌∷◌, length, take, get_or, ap, true, false, if◌then◌else◌}
use Rattle.std.proofs.lemmas.List.{take_more}
use Rattle.std.proofs.lemmas.List.Sums.{sum_by-append, sum_by-cons}
use Rattle.guest_turns.specs.TurnLists.{own_steps}

abbrev own : ℕ → ℕ × ℕ → ℕ
own g turn = if turn.0 == g then turn.1 else 0

module _ (g : ℕ) (turns : List (ℕ × ℕ)) (i : ℕ) (d : ℕ × ℕ) where
  one_more : i < length turns → own_steps g (take (i + 1) turns) ≡ own_steps g (take i turns) + (own g (get_or turns i d) + 0)
  one_more inside = ap (λ (front : List (ℕ × ℕ)). own_steps g front) (take_more turns i d inside)
      ∙ sum_by-append (own g) (take i turns) (get_or turns i d ∷ [])
      ∙ ap (λ (n : ℕ). own_steps g (take i turns) + n) (sum_by-cons (own g) (get_or turns i d) [])

  pub own_more : i < length turns → (get_or turns i d).0 ≡ g → own_steps g (take (i + 1) turns) ≡ own_steps g (take i turns) + (get_or turns i d).1
  own_more inside same = let is : ((get_or turns i d).0 == g) ≡ true = grind (arith, same) in one_more inside ∙ rw (is) (omega arith)

  pub own_other : i < length turns → (get_or turns i d).0 ≢ g → own_steps g (take (i + 1) turns) ≡ own_steps g (take i turns)
  own_other inside other = let is : ((get_or turns i d).0 == g) ≡ false = grind (arith, other) in one_more inside ∙ rw (is) (omega arith)

pub ruleset own_rules = (own_more, own_other)
