-- The machines and the events of turns, by the machines' own runs.
use Rattle.std.proofs.Common.{cond, ◌≡◌, ℕ, zero, suc, ◌+◌, ◌<◌, List, [], ◌∷◌, ◌++◌, length, refl, ap, sym, ◌∙◌, arith}
use Rattle.std.proofs.lemmas.List.{ext_get_or}
use Rattle.machine_defs.specs.Machine.{Machine}
use Rattle.machine_defs.specs.Runs.{is_plain_step, pc_and_word, plain_count, run, trace_of}
use Rattle.guest_turns.specs.Hosted.{machine_at, no_machine}
use Rattle.guest_turns.specs.TurnLists.{own_events, own_steps, turn_events, with_turns}
use Rattle.guest_turns.proofs.Accounts.{turns_count_alike}
use Rattle.guest_turns.proofs.TurnLists.{runs_its_own_turns, turns_keep_count}
use Rattle.nesthv_top.specs.Plans.{section_from, sections}
use Rattle.nesthv_top.specs.Runnings.{said_of, sections_of}

-- machines that have run for the steps of their own turns, after that many others
abbrev pub runs_from : ℕ → List Machine → List (ℕ × ℕ) → List Machine
runs_from before [] turns = []
runs_from before (m ∷ ms) turns = run m (own_steps before turns) ∷ runs_from (before + 1) ms turns

length_runs : (before : ℕ) (ms : List Machine) (turns : List (ℕ × ℕ)) → length (runs_from before ms turns) ≡ length ms
length_runs before [] turns = refl
length_runs before (m ∷ ms) turns = ap suc (length_runs (before + 1) ms turns)

one_further : (a b : ℕ) → a + 1 + b ≡ a + suc b
one_further a b = omega arith

none_further : (a : ℕ) → a ≡ a + 0
none_further a = omega arith

run_at : (before : ℕ) (ms : List Machine) (turns : List (ℕ × ℕ)) (g : ℕ) → g < length ms
    → machine_at (runs_from before ms turns) g ≡ run (machine_at ms g) (own_steps (before + g) turns)
run_at before [] turns g inside = absurd (omega (arith, inside))
run_at before (m ∷ ms) turns zero inside = ap (λ n. run m (own_steps n turns)) (none_further before)
run_at before (m ∷ ms) turns (suc g) inside =
    run_at (before + 1) ms turns g (omega (arith, inside)) ∙ ap (λ n. run (machine_at ms g) (own_steps n turns)) (one_further before g)

zero_plus : (g : ℕ) → 0 + g ≡ g
zero_plus g = omega arith

pub with_turns_are : (turns : List (ℕ × ℕ)) (ms : List Machine) → with_turns turns ms ≡ runs_from 0 ms turns
with_turns_are turns ms =
    ext_get_or no_machine (with_turns turns ms) (runs_from 0 ms turns) (turns_keep_count turns ms ∙ sym (length_runs 0 ms turns))
    (λ g inside.
    let there : g < length ms = rw (turns_keep_count turns ms) at inside in
    runs_its_own_turns turns ms g there ∙ ap (λ n. run (machine_at ms g) (own_steps n turns)) (sym (zero_plus g)) ∙ sym (run_at 0 ms turns g there))

-- the sections of these machines
sections_run : (before : ℕ) (names : List (List ℕ)) (ms : List Machine) (turns : List (ℕ × ℕ))
    → sections_of names (runs_from before ms turns) ≡ sections before names ms turns
unfolding sections said_of
sections_run before [] ms turns = refl
sections_run before (name ∷ names) [] turns = refl
sections_run before (name ∷ names) (m ∷ ms) turns = ap (λ text. section_from name m (own_steps before turns) ++ text) (sections_run (before + 1) names ms turns)

pub sections_are : (names : List (List ℕ)) (ms : List Machine) (turns : List (ℕ × ℕ))
    → sections_of names (with_turns turns ms) ≡ sections 0 names ms turns
sections_are names ms turns = ap (sections_of names) (with_turns_are turns ms) ∙ sections_run 0 names ms turns

-- the plain steps of turns and their trace are those of the machines' own runs
pub plain_are : (turns : List (ℕ × ℕ)) (ms : List Machine) → plain_count (turn_events turns ms) ≡ plain_count (own_events turns ms)
plain_are turns ms = turns_count_alike (λ e. cond (is_plain_step e) 1 0) turns ms

pub trace_is : (turns : List (ℕ × ℕ)) (ms : List Machine) → trace_of (turn_events turns ms) ≡ trace_of (own_events turns ms)
trace_is turns ms = turns_count_alike pc_and_word turns ms
