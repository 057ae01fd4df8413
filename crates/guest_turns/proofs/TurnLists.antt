-- Turns of guests, one after another.
use Rattle.std.proofs.Common.{cond, ◌≡◌, ◌≢◌, ℕ, ◌+◌, ◌<◌, ◌==◌, ◌⊎◌, inl, inr, true, false, List, [], ◌∷◌, length, refl, ap, sym, ◌∙◌, arith}
use Rattle.std.proofs.lemmas.Bool.{cases_Bool, eqb-true, eq-eqb, both_ways}
use Rattle.std.proofs.lemmas.List.{ext_get_or}
use Rattle.std.proofs.lemmas.List.Sums.{sum_by-cons}
use Rattle.machine_defs.specs.Machine.{Machine}
use Rattle.machine_defs.specs.Runs.{run}
use Rattle.fill_laws.proofs.Running.{run_none, runs_compose}
use Rattle.guest_turns.specs.Hosted.{machine_at, no_machine}
use Rattle.guest_turns.specs.TurnLists.{OrderHasNoEffect, RunsItsOwnTurns, TurnsKeepCount, own_steps, with_turn, with_turns}
use Rattle.guest_turns.proofs.Updating.{length_updated, updated_other, updated_same}

-- what a turn is to a machine
abbrev part_of_turn : ℕ → ℕ × ℕ → ℕ
part_of_turn g turn = cond (turn.0 == g) turn.1 0

one_turn : (machines : List Machine) (h k g : ℕ) → g < length machines
    → machine_at (with_turn h k machines) g ≡ run (machine_at machines g) (part_of_turn g (h, k))
one_turn machines h k g inside = by (cases_Bool (h == g))
  where
    by : ((h == g) ≡ true) ⊎ ((h == g) ≡ false) → machine_at (with_turn h k machines) g ≡ run (machine_at machines g) (part_of_turn g (h, k))
    by (inl same) =
        let e : h ≡ g = eqb-true h g same in
        rw (same, e) (updated_same g (λ m. run m k) machines no_machine inside)
    by (inr other) =
        let apart : h ≢ g = λ e. both_ways (h == g) other (rw e (eq-eqb g g refl)) in
        rw other (updated_other h g (λ m. run m k) machines no_machine apart ∙ sym (run_none (machine_at machines g) 0 (omega arith)))

pub turns_keep_count : TurnsKeepCount
turns_keep_count [] machines = refl
turns_keep_count ((g, k) ∷ turns) machines = turns_keep_count turns (with_turn g k machines) ∙ length_updated g (λ m. run m k) machines

pub runs_its_own_turns : RunsItsOwnTurns
runs_its_own_turns [] machines g inside = sym (run_none (machine_at machines g) 0 (omega arith))
runs_its_own_turns ((h, k) ∷ turns) machines g inside =
    let there : g < length (with_turn h k machines) = rw (length_updated h (λ m. run m k) machines) inside in
    let all : own_steps g ((h, k) ∷ turns) ≡ part_of_turn g (h, k) + own_steps g turns = sum_by-cons (part_of_turn g) (h, k) turns in
    runs_its_own_turns turns (with_turn h k machines) g there
    ∙ ap (λ m. run m (own_steps g turns)) (one_turn machines h k g inside)
    ∙ runs_compose (machine_at machines g) (part_of_turn g (h, k)) (own_steps g turns)
    ∙ ap (run (machine_at machines g)) (sym all)

pub order_has_no_effect : OrderHasNoEffect
order_has_no_effect turns other machines same =
    ext_get_or no_machine (with_turns turns machines) (with_turns other machines)
    (turns_keep_count turns machines ∙ sym (turns_keep_count other machines))
    (λ g inside.
    let there : g < length machines = rw (turns_keep_count turns machines) at inside in
    runs_its_own_turns turns machines g there
    ∙ ap (run (machine_at machines g)) (same g)
    ∙ sym (runs_its_own_turns other machines g there))
