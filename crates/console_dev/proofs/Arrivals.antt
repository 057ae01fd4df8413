-- The first unread input comes before all others.
use Rattle.std.proofs.Common.{◌≡◌, ◌↔◌, ℕ, ◌<◌, List, [], ◌∷◌, false, All, arith, refl}
use Rattle.std.proofs.lemmas.Grind.{common_steps}
use Rattle.std.specs.List.Sorted.{IsNonDecreasingBy}
use Rattle.arch_defs.specs.Inputs.{has_input}

-- where the first one's moment is ahead, so is each one's
all_ahead : (inputs : List (ℕ × ℕ)) (clock : ℕ) → IsNonDecreasingBy (λ input. input.0) inputs
    → has_input inputs clock ≡ false → All (λ input. clock < input.0) inputs
all_ahead [] clock order none = λ k d within. absurd (omega arith)
all_ahead ((moment, byte) ∷ rest) clock order none = λ k d within.
    let first = order 0 k d (omega arith) within in
    grind (arith, common_steps, first)

-- where each one's moment is ahead, the first one's has not come
none_come : (inputs : List (ℕ × ℕ)) (clock : ℕ) → All (λ input. clock < input.0) inputs
    → has_input inputs clock ≡ false
none_come [] clock ahead = refl
none_come ((moment, byte) ∷ rest) clock ahead =
    let first = ahead 0 (moment, byte) (omega arith) in
    grind (arith, common_steps, first)

pub none_exactly : (inputs : List (ℕ × ℕ)) (clock : ℕ) → IsNonDecreasingBy (λ input. input.0) inputs
    → (has_input inputs clock ≡ false) ↔ All (λ input. clock < input.0) inputs
none_exactly inputs clock order = (all_ahead inputs clock order, none_come inputs clock)
