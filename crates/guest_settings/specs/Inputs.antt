-- The inputs that a guest is given, each a moment and a byte that is there from this moment of the clock on
-- (own).
use Rattle.std.specs.Prelude.{ℕ, ◌≤◌, ◌<◌, ◌^◌, List, All, length}
use Rattle.std.specs.List.Sorted.{IsNonDecreasingBy}
use Rattle.guest_settings.specs.Limits.{most_inputs}

-- what a console may be given: inputs with moments below 2^62, none less than the one before
pub record AreInputs (inputs : List (ℕ × ℕ)) : Type 0 where
  pub count : length inputs ≤ most_inputs
  pub moments : All (λ input. input.0 < 2 ^ 62) inputs
  pub order : IsNonDecreasingBy (λ input. input.0) inputs
