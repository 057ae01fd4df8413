-- Stops, one position at a time.
use Rattle.std.proofs.Common.{arith, ◌≡◌, ℕ, suc, ◌+◌, ◌-◌, ◌<◌, ◌≤◌, true, false, refl, ap, ◌∙◌, Option, Some, None}
use Rattle.machine_defs.specs.Machine.{Machine}
use Rattle.machine_defs.specs.Runs.{run}
use Rattle.run_positions.specs.Stops.{stops_at, is_end, last_stop, next_stop, IsFoundFrom, StopSet}
use Rattle.run_positions.proofs.Moving.{keeps_none, keeps_then}

module _ (origin : Machine) (stops : StopSet) where
  last_suc_yes : (n : ℕ) → stops_at stops (run origin n) ≡ true → last_stop origin stops (suc n) ≡ n
  unfolding last_stop
  last_suc_yes n is = rw (is) refl

  last_suc_no : (n : ℕ) → stops_at stops (run origin n) ≡ false → last_stop origin stops (suc n) ≡ last_stop origin stops n
  unfolding last_stop
  last_suc_no n no_stop = rw (no_stop) refl

  pub last_yes : (n : ℕ) → stops_at stops (run origin n) ≡ true → last_stop origin stops (n + 1) ≡ n
  last_yes n is = let next : n + 1 ≡ suc n = omega arith in rw (next) (last_suc_yes n is)

  pub last_no : (n : ℕ) → stops_at stops (run origin n) ≡ false → last_stop origin stops (n + 1) ≡ last_stop origin stops n
  last_no n no_stop = let next : n + 1 ≡ suc n = omega arith in rw (next) (last_suc_no n no_stop)

  pub last_none : (n : ℕ) → n ≤ 0 → last_stop origin stops n ≡ 0
  unfolding last_stop
  last_none n none = let zero_is : n ≡ 0 = omega (arith, none) in rw (zero_is) refl

  next_suc_yes : (n k : ℕ) → is_end stops (run origin (suc n)) ≡ true → next_stop origin stops n (suc k) ≡ suc n
  unfolding next_stop
  next_suc_yes n k is = rw (is) refl

  next_suc_no : (n k : ℕ) → is_end stops (run origin (suc n)) ≡ false → next_stop origin stops n (suc k) ≡ next_stop origin stops (suc n) k
  unfolding next_stop
  next_suc_no n k no_end = rw (no_end) refl

  pub next_yes : (n last : ℕ) → n < last → is_end stops (run origin (n + 1)) ≡ true → next_stop origin stops n (last - n) ≡ n + 1
  next_yes n last before is =
      let more : last - n ≡ suc (last - (n + 1)) = omega (arith, before) in
      let next : suc n ≡ n + 1 = omega arith in
      rw (more) (next_suc_yes n (last - (n + 1)) (rw (next) is) ∙ next)

  pub next_no : (n last : ℕ) → n < last → is_end stops (run origin (n + 1)) ≡ false
      → next_stop origin stops n (last - n) ≡ next_stop origin stops (n + 1) (last - (n + 1))
  next_no n last before no_end =
      let more : last - n ≡ suc (last - (n + 1)) = omega (arith, before) in
      let next : suc n ≡ n + 1 = omega arith in
      rw (more) (next_suc_no n (last - (n + 1)) (rw (next) no_end) ∙ ap (λ (at : ℕ). next_stop origin stops at (last - (n + 1))) next)

  pub next_none : (n last : ℕ) → last ≤ n → next_stop origin stops n (last - n) ≡ n
  unfolding next_stop
  next_none n last all = let none : last - n ≡ 0 = omega (arith, all) in rw (none) refl

  -- a position is noted where a stop holds
  pub found_here : (low n : ℕ) → stops_at stops (run origin n) ≡ true → IsFoundFrom origin stops low (n + 1) (Some n)
  found_here low n is = last_yes n is

  pub found_still : (low n : ℕ) (found : Option ℕ) → stops_at stops (run origin n) ≡ false → IsFoundFrom origin stops low n found
      → IsFoundFrom origin stops low (n + 1) found
  found_still low n (Some place) no_stop is = last_no n no_stop ∙ is
  found_still low n None no_stop is = last_no n no_stop ∙ is

  pub found_none : (n : ℕ) → IsFoundFrom origin stops n n None
  found_none n = refl

pub ruleset goings_back = (last_none, keeps_none, keeps_then)

pub ruleset goings_on = (next_yes, next_no, next_none, keeps_none, keeps_then)

pub ruleset scannings = (found_none, keeps_none, keeps_then)

pub ruleset notings = (found_here, found_still)
