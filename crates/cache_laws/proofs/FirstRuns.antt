-- Every run is fresh in what it caches of the first stage.
use Rattle.std.specs.Prelude.{Contains, get_or}
use Rattle.std.specs.List.{All}
use Rattle.std.proofs.Common.{◌≡◌, ℕ, zero, suc, ◌<◌, ◌≤◌, ◌∙◌, ◌⊎◌, inl, inr, false, List, refl, sym, subst, ap, arith}
use Rattle.std.proofs.lemmas.Bool.{cases_lt}
use Rattle.std.proofs.lemmas.List.Elements.{All-contains_itself, All-nil, All-weaker}
use Rattle.arch_defs.specs.declared.first.FirstEntry.{FirstEntry}
use Rattle.guest_settings.specs.declared.statuses.Status.{Status}
use Rattle.guest_settings.specs.declared.statuses.Status.TheVariants.{Running, Waiting, Stopped}
use Rattle.machine_defs.specs.Fills.{most_fills, ready}
use Rattle.machine_defs.specs.Freshness.{IsFirstFresh, found_by_status, found_if_ended, named_by_status, next_found, next_named}
use Rattle.machine_defs.specs.Machine.{Machine, start}
use Rattle.machine_defs.specs.Runs.{left_after, run, step, stepped}
use Rattle.machine_defs.specs.Tries.{found_by_try, stages_of, try}
use Rattle.cache_laws.specs.Caching.{GuestsFirstFresh, RunsFirstFresh}
use Rattle.fill_laws.proofs.Filling.{only_spaces}
use Rattle.instruction_laws.proofs.FirstTries.{tried_keeps_first, tried_unnamed_first}
use Rattle.fill_laws.proofs.Running.{next_run}

-- what was fresh, or was found by the next step, is fresh after it, where it does not name it as a fence
abbrev IsHeld : Machine → ℕ → FirstEntry → Type 0
IsHeld m steps e = IsFirstFresh m steps e ⊎ Contains (next_found (run m steps)) e

still_fresh : (m : Machine) (steps : ℕ) (e : FirstEntry) → IsHeld m steps e → next_named (run m steps) e ≡ false → IsFirstFresh m (suc steps) e
still_fresh m steps e (inl fresh) unnamed = record {
  found_in = fresh.found_in;
  earlier = let earlier = fresh.earlier in omega arith;
  found = fresh.found;
  unfenced = λ i from to. by i from to (cases_lt i steps);
}
  where
    by : (i : ℕ) → fresh.found_in ≤ i → i < suc steps → (i < steps) ⊎ (steps ≤ i) → next_named (run m i) e ≡ false
    by i from to (inl before) = fresh.unfenced i from before
    by i from to (inr past) = let last : i ≡ steps = omega arith in rw last unnamed
still_fresh m steps e (inr found) unnamed = record {
  found_in = steps;
  earlier = omega arith;
  found = found;
  unfenced = λ i from to. let last : i ≡ steps = omega arith in rw last unnamed;
}

-- what the next step finds and names, by the machine's status
found_is : (m : Machine) (s : Status) → m.platform.status ≡ s → next_found m ≡ found_by_status (ready m) s
unfolding next_found
found_is m s is = ap (found_by_status (ready m)) is

named_is : (m : Machine) (s : Status) (e : FirstEntry) → m.platform.status ≡ s → next_named m e ≡ named_by_status (ready m) s e
unfolding next_named
named_is m s e is = ap (λ s. named_by_status (ready m) s e) is

-- fills leave the first stage as it is
ready_same : (m : Machine) → (ready m).platform.virt.first ≡ m.platform.virt.first
ready_same m = ap (λ (t : Machine). t.platform.virt.first) (only_spaces m (most_fills m))

-- so after the next step
step_fresh : (m : Machine) (steps : ℕ) → All (IsFirstFresh m steps) (run m steps).platform.virt.first → (s : Status) → (run m steps).platform.status ≡ s
    → All (IsFirstFresh m (suc steps)) (stepped (run m steps) s).platform.virt.first
step_fresh m steps all s going = by s (found_is now s going) (λ e. named_is now s e going)
  where
    now : Machine
    now = run m steps

    held : (entries : List FirstEntry) → All (IsFirstFresh m steps) entries → All (IsHeld m steps) entries
    held entries fresh = All-weaker (IsFirstFresh m steps) (IsHeld m steps) (λ e one. inl one) entries fresh

    by : (s : Status) → next_found now ≡ found_by_status (ready now) s → ((e : FirstEntry) → next_named now e ≡ named_by_status (ready now) s e)
        → All (IsFirstFresh m (suc steps)) (stepped now s).platform.virt.first
    by Running found named =
        let last = ready now in
        let stages = stages_of last in
        let before : All (IsHeld m steps) last.platform.virt.first = subst (All (IsHeld m steps)) (sym (ready_same now)) (held now.platform.virt.first all) in
        let finds : All (IsHeld m steps) (found_if_ended (found_by_try stages last) (try last)) = All-weaker (Contains (next_found now)) (IsHeld m steps) (λ e one. inr one)
        (found_if_ended (found_by_try stages last) (try last))
        (subst (λ entries. All (Contains (next_found now)) entries) found (All-contains_itself (next_found now))) in
        let kept = tried_keeps_first (IsHeld m steps) last stages before finds in
        let unnamed = tried_unnamed_first last stages in
        λ i e inside. still_fresh m steps (get_or (left_after last).platform.virt.first i e) (kept i e inside) (named (get_or (left_after last).platform.virt.first i e) ∙ unnamed i e inside)
    by Waiting found named = λ i e inside. still_fresh m steps (get_or now.platform.virt.first i e) (inl (all i e inside)) (named (get_or now.platform.virt.first i e))
    by Stopped found named = λ i e inside. still_fresh m steps (get_or now.platform.virt.first i e) (inl (all i e inside)) (named (get_or now.platform.virt.first i e))

pub runs_first_fresh : RunsFirstFresh
unfolding run step
runs_first_fresh m zero none = subst (All (IsFirstFresh m 0)) (sym none) (All-nil (IsFirstFresh m 0))
runs_first_fresh m (suc steps) none = subst (λ (t : Machine). All (IsFirstFresh m (suc steps)) t.platform.virt.first) (next_run m steps)
    (step_fresh m steps (runs_first_fresh m steps none) (run m steps).platform.status refl)

pub guests_first_fresh : GuestsFirstFresh
unfolding start
guests_first_fresh guest steps = runs_first_fresh (start guest) steps refl
