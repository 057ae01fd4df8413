-- Weights times a quantum, one guest after the other.
use Rattle.std.proofs.Common.{◌≡◌, ℕ, ◌+◌, ◌*◌, ◌^◌, ◌<◌, ◌≤◌, nat_le, false, List, [], ◌∷◌, get_or, length, drop, map, Option, Some, None, refl, arith}
use Rattle.std.proofs.lemmas.Bool.{le-leb}
use Rattle.std.proofs.lemmas.Bool.Decides.{nat_tests}
use Rattle.std.proofs.lemmas.List.{drop_all, drop_more}
use Rattle.std.proofs.lemmas.List.Elements.{All-nil, All-cons, All-get_or, All-map}
use Rattle.std.specs.List.{All, enumerate_from, slice_index}
use Rattle.run_config.specs.declared.faults.ConfigFault.{ConfigFault}
use Rattle.run_config.specs.Faults as fault
use Rattle.run_config.specs.declared.guests.GuestSettings.{GuestSettings}
use Rattle.run_config.specs.Accept.{weights_of}
use Rattle.run_config.specs.Tests.{first_fault, unless}
use Rattle.run_config.specs.Turns.{too_long_turn, weights_fault}
use Rattle.run_config.proofs.Within.{first_none, unless_none}

-- the fault of the first guest from this one on
abbrev pub rest_fault : List ℕ → ℕ → ℕ → Option ConfigFault
rest_fault weights quantum guest = first_fault (map (too_long_turn quantum) (enumerate_from guest (drop guest weights)))

over : (n most : ℕ) → most < n → nat_le n most ≡ false
over n most h = grind (arith, nat_tests, h)

pub weight_passes : (weights : List ℕ) (quantum guest : ℕ) → guest < length weights → slice_index weights guest * quantum ≤ 2 ^ 32 → rest_fault weights quantum guest ≡ rest_fault weights quantum (guest + 1)
weight_passes weights quantum guest within light =
    rw (drop_more weights guest 0 within, le-leb (slice_index weights guest * quantum) (2 ^ 32) light) refl

pub weight_fails : (weights : List ℕ) (quantum guest : ℕ) → guest < length weights → 2 ^ 32 < slice_index weights guest * quantum
    → rest_fault weights quantum guest ≡ Some (fault.weight guest (slice_index weights guest * quantum))
weight_fails weights quantum guest within heavy =
    rw (drop_more weights guest 0 within, over (slice_index weights guest * quantum) (2 ^ 32) heavy) refl

pub all_weights : (weights : List ℕ) (quantum guest : ℕ) → length weights ≤ guest → rest_fault weights quantum guest ≡ None
all_weights weights quantum guest past = rw (drop_all guest weights past) refl

light_from : (quantum guest : ℕ) (weights : List ℕ) → first_fault (map (too_long_turn quantum) (enumerate_from guest weights)) ≡ None → All (λ weight. weight * quantum ≤ 2 ^ 32) weights
light_from quantum guest [] e = All-nil (λ weight. weight * quantum ≤ 2 ^ 32)
light_from quantum guest (weight ∷ weights) e =
    let (here, rest) = first_none (unless (nat_le (weight * quantum) (2 ^ 32)) _) _ e in
    let light : weight * quantum ≤ 2 ^ 32 = grind (arith, nat_tests, unless_none _ _ here) in
    All-cons (λ weight. weight * quantum ≤ 2 ^ 32) weight weights light (light_from quantum (guest + 1) weights rest)

-- without a fault no turn is too long
pub all_light : (weights : List ℕ) (quantum : ℕ) → weights_fault weights quantum ≡ None → All (λ weight. weight * quantum ≤ 2 ^ 32) weights
unfolding weights_fault
all_light weights quantum e = light_from quantum 0 weights e

pub ruleset weights = (weight_passes, weight_fails, all_weights)

-- what holds of each guest's weight holds of each weight
pub light : (weights : List ℕ) (guests : List GuestSettings) → weights ≡ weights_of guests → All (λ g. g.weight ≤ 1000) guests → (k d : ℕ) → k < length weights → get_or weights k d ≤ 1000
light weights guests is each k d within = All-get_or (λ weight. weight ≤ 1000) weights k d within (rw is (All-map (λ weight. weight ≤ 1000) (λ g. g.weight) guests each))
