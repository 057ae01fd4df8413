-- What turns count for, by their guests.
use Rattle.std.proofs.Common.{cond, ◌≡◌, ◌≢◌, ℕ, zero, suc, ◌+◌, ◌<◌, ◌==◌, false, true, List, [], ◌∷◌, ◌++◌, refl, ap, subst, sym, ◌∙◌, arith}
use Rattle.std.specs.Prelude.{sum_by}
use Rattle.std.proofs.lemmas.Bool.{eq-eqb, ne_eqb}
use Rattle.std.proofs.lemmas.List.Sums.{sum_by-append, sum_by-cons}
use Rattle.machine_defs.specs.declared.events.Event.{Event}
use Rattle.machine_defs.specs.Machine.{Machine}
use Rattle.machine_defs.specs.Runs.{events, run}
use Rattle.fill_laws.proofs.Running.{events_compose, events_idle, events_none}
use Rattle.guest_turns.specs.Hosted.{machine_at, no_machine}
use Rattle.guest_turns.specs.TurnLists.{TurnsCountAlike, events_from, own_steps, turn_events, updated, with_turn}

-- the machine of a guest that does not exist makes no step
none_of : (k : ℕ) → events no_machine k ≡ []
unfolding no_machine
none_of k = events_idle no_machine k (λ e. cc)

-- the steps of a guest's own turns, by whether the first turn is its own
own_first : (g k : ℕ) (turns : List (ℕ × ℕ)) → own_steps g ((g, k) ∷ turns) ≡ k + own_steps g turns
own_first g k turns =
    let test : (g == g) ≡ true = eq-eqb g g refl in
    sum_by-cons (λ turn. cond (turn.0 == g) turn.1 0) (g, k) turns ∙ ap (λ b. cond b k 0 + own_steps g turns) test

other_first : (g h k : ℕ) (turns : List (ℕ × ℕ)) → h ≢ g → own_steps g ((h, k) ∷ turns) ≡ own_steps g turns
other_first g h k turns other =
    let test : (h == g) ≡ false = ne_eqb h g other in
    sum_by-cons (λ turn. cond (turn.0 == g) turn.1 0) (h, k) turns ∙ ap (λ b. cond b k 0 + own_steps g turns) test ∙ none_more (own_steps g turns)
  where
    none_more : (n : ℕ) → 0 + n ≡ n
    none_more n = omega arith

-- a turn of a guest before them
before_them : (first h k : ℕ) (turns : List (ℕ × ℕ)) (machines : List Machine) → h < first → events_from first ((h, k) ∷ turns) machines ≡ events_from first turns machines
before_them first h k turns [] before = refl
before_them first h k turns (m ∷ machines) before =
    rw (other_first first h k turns (λ e. omega (arith, e, before)), before_them (first + 1) h k turns machines (omega (arith, before))) refl

-- a turn of one of them
one_of : (count : Event → ℕ) (h first i k : ℕ) (turns : List (ℕ × ℕ)) (machines : List Machine) → h ≡ first + i
    → sum_by count (events_from first ((h, k) ∷ turns) machines)
    ≡ sum_by count (events (machine_at machines i) k) + sum_by count (events_from first turns (updated i (λ m. run m k) machines))
one_of count h first i k turns [] is = rw (none_of k) refl
one_of count h first zero k turns (m ∷ machines) is =
    let here : h ≡ first = omega (arith, is) in
    let own : own_steps first ((h, k) ∷ turns) ≡ k + own_steps first turns = subst (λ g. own_steps first ((g, k) ∷ turns) ≡ k + own_steps first turns) (sym here) (own_first first k turns) in
    let rest = events_from (first + 1) turns machines in
    let later = events (run m k) (own_steps first turns) in
    ap (λ n. sum_by count (events m n ++ events_from (first + 1) ((h, k) ∷ turns) machines)) own
    ∙ ap (λ rest. sum_by count (events m (k + own_steps first turns) ++ rest)) (before_them (first + 1) h k turns machines (omega (arith, is)))
    ∙ ap (λ all. sum_by count (all ++ rest)) (sym (events_compose m k (own_steps first turns)))
    ∙ sum_by-append count (events m k ++ later) rest
    ∙ ap (λ n. n + sum_by count rest) (sum_by-append count (events m k) later)
    ∙ add_assoc_of (sum_by count (events m k)) (sum_by count later) (sum_by count rest)
    ∙ ap (λ n. sum_by count (events m k) + n) (sym (sum_by-append count later rest))
  where
    add_assoc_of : (a b c : ℕ) → a + b + c ≡ a + (b + c)
    add_assoc_of a b c = omega arith
one_of count h first (suc i) k turns (m ∷ machines) is =
    let other : h ≢ first = λ e. omega (arith, is, e) in
    let own = events m (own_steps first turns) in
    ap (λ n. sum_by count (events m n ++ events_from (first + 1) ((h, k) ∷ turns) machines)) (other_first first h k turns other)
    ∙ sum_by-append count own (events_from (first + 1) ((h, k) ∷ turns) machines)
    ∙ ap (λ n. sum_by count own + n) (one_of count h (first + 1) i k turns machines (omega (arith, is)))
    ∙ swapped (sum_by count own) (sum_by count (events (machine_at machines i) k)) (sum_by count (events_from (first + 1) turns (updated i (λ m. run m k) machines)))
    ∙ ap (λ n. sum_by count (events (machine_at machines i) k) + n) (sym (sum_by-append count own (events_from (first + 1) turns (updated i (λ m. run m k) machines))))
  where
    swapped : (a b c : ℕ) → a + (b + c) ≡ b + (a + c)
    swapped a b c = omega arith

pub turns_count_alike : TurnsCountAlike
turns_count_alike count [] machines = sym (none machines 0)
  where
    none : (machines : List Machine) (first : ℕ) → sum_by count (events_from first [] machines) ≡ 0
    none [] first = refl
    none (m ∷ machines) first = rw (events_none m 0 (omega arith)) (none machines (first + 1))
turns_count_alike count ((g, k) ∷ turns) machines =
    sum_by-append count (events (machine_at machines g) k) (turn_events turns (with_turn g k machines))
    ∙ ap (λ n. sum_by count (events (machine_at machines g) k) + n) (turns_count_alike count turns (with_turn g k machines))
    ∙ sym (one_of count g 0 g k turns machines (omega arith))
