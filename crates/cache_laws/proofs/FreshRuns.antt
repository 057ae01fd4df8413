-- Every run is fresh.
use Rattle.std.specs.List.{All}
use Rattle.std.proofs.Common.{◌≡◌, ℕ, zero, suc, ◌*◌, ◌/◌, ◌<◌, ◌≤◌, ◌∙◌, ◌⊎◌, inl, inr, false, List, [], ◌∷◌, Option, None, refl, sym, subst, ap, arith}
use Rattle.std.proofs.lemmas.Bool.{cases_lt}
use Rattle.std.proofs.lemmas.List.Elements.{All-head, All-nil}
use Rattle.arch_defs.specs.declared.cached.Entry.{Entry}
use Rattle.arch_defs.specs.declared.cached.Fence.{Fence}
use Rattle.arch_defs.specs.declared.roots.GuestRoot.{GuestRoot}
use Rattle.arch_defs.specs.Roots.{vmid_of}
use Rattle.arch_defs.specs.Spaces.{Space, front}
use Rattle.guest_settings.specs.declared.statuses.Status.{Status}
use Rattle.guest_settings.specs.declared.statuses.Status.TheVariants.{Running, Waiting, Stopped}
use Rattle.machine_defs.specs.Fills.{most_fills, ready}
use Rattle.machine_defs.specs.FreeMachines.{is_named}
use Rattle.machine_defs.specs.Freshness.{IsFresh, fence_by_status, next_fence}
use Rattle.machine_defs.specs.Machine.{Machine, start}
use Rattle.machine_defs.specs.Runs.{left_after, run, step, stepped}
use Rattle.machine_defs.specs.Tries.{fence_under, stages_of}
use Rattle.cache_laws.specs.Caching.{GuestsCacheFresh, GuestsUseFresh, RunsCacheFresh, RunsUseFresh}
use Rattle.instruction_laws.specs.FrontSpaces.{FrontIs}
use Rattle.fill_laws.specs.Keeping.{IsOrderly}
use Rattle.fill_laws.proofs.Filling.{only_spaces}
use Rattle.fill_laws.specs.EachEntry.{EachEntry}
use Rattle.fill_laws.proofs.EachEntry.{tried_each}
use Rattle.cache_laws.proofs.KeyedEntries.{HoldsOfWalks, each_both, fills_each, none_named, tried_unnamed}
use Rattle.fill_laws.proofs.Orderly.{filled_orderly, start_is_orderly, stays_orderly}
use Rattle.fill_laws.proofs.Walks.{now_page, now_same}
use Rattle.fill_laws.proofs.Running.{next_run}

-- what is walked now is fresh
walked_fresh : (m : Machine) (steps : ℕ) → HoldsOfWalks (IsFresh m steps) (run m steps).device (run m steps).platform.virt (run m steps).ram
walked_fresh m steps folding address kind e is = let now = run m steps in
    let page : e.page ≡ address / 4096 = now_page now.device now.platform.virt.csrs now.ram address kind e is in
    let same : 4096 * e.page / 4096 ≡ address / 4096 = omega (arith, page) in
    record {
      walked_after = steps;
      earlier = omega arith;
      root = refl;
      kind = kind;
      walked = now_same now.device now.platform.virt.csrs now.ram (4096 * e.page) address kind same ∙ is;
      unfenced = λ i from to. absurd (omega arith);
    }

-- and stays so where the next step does not name it as a fence
still_fresh : (m : Machine) (steps : ℕ) (key : GuestRoot) (e : Entry) → IsFresh m steps key e → is_named (next_fence (run m steps)) (vmid_of key) e ≡ false
    → IsFresh m (suc steps) key e
still_fresh m steps key e fresh unnamed = record {
  walked_after = fresh.walked_after;
  earlier = let earlier = fresh.earlier in omega arith;
  root = fresh.root;
  kind = fresh.kind;
  walked = fresh.walked;
  unfenced = λ i from to. by i from to (cases_lt i steps);
}
  where
    by : (i : ℕ) → fresh.walked_after ≤ i → i < suc steps → (i < steps) ⊎ (steps ≤ i) → is_named (next_fence (run m i)) (vmid_of key) e ≡ false
    by i from to (inl before) = fresh.unfenced i from before
    by i from to (inr past) = let last : i ≡ steps = omega arith in rw last unnamed

-- the entries at the last try of the next step
ready_fresh : (m : Machine) (steps : ℕ) → IsOrderly (run m steps) → EachEntry (IsFresh m steps) (run m steps).spaces → EachEntry (IsFresh m steps) (ready (run m steps)).spaces
ready_fresh m steps is all = fills_each (IsFresh m steps) (most_fills (run m steps)) (run m steps) is (walked_fresh m steps) all

-- the fence that the next step is
fence_is : (m : Machine) (s : Status) → m.platform.status ≡ s → next_fence m ≡ fence_by_status (ready m) s
unfolding next_fence
fence_is m s is = ap (fence_by_status (ready m)) is

-- and after this step
step_fresh : (m : Machine) (steps : ℕ) → IsOrderly (run m steps) → EachEntry (IsFresh m steps) (run m steps).spaces
    → (s : Status) → (run m steps).platform.status ≡ s → EachEntry (IsFresh m (suc steps)) (stepped (run m steps) s).spaces
step_fresh m steps is all s going = by s (fence_is (run m steps) s going)
  where
    later : (fence : Option Fence) → next_fence (run m steps) ≡ fence → (spaces : List Space) → EachEntry (IsFresh m steps) spaces
        → EachEntry (λ key e. is_named fence (vmid_of key) e ≡ false) spaces → EachEntry (IsFresh m (suc steps)) spaces
    later fence same spaces fresh left = each_both (IsFresh m steps) (λ key e. is_named fence (vmid_of key) e ≡ false) (IsFresh m (suc steps))
        (λ key e one unnamed. still_fresh m steps key e one (ap (λ f. is_named f (vmid_of key) e) same ∙ unnamed)) spaces fresh left

    by : (s : Status) → next_fence (run m steps) ≡ fence_by_status (ready (run m steps)) s → EachEntry (IsFresh m (suc steps)) (stepped (run m steps) s).spaces
    by Running same = let now = run m steps in let stages = stages_of (ready now) in
        later (fence_under stages (ready now)) same (left_after (ready now)).spaces
        (tried_each (IsFresh m steps) (ready now) stages (ready_fresh m steps is all)) (tried_unnamed (ready now) stages)
    by Waiting same = later None same (run m steps).spaces all (none_named (run m steps).spaces)
    by Stopped same = later None same (run m steps).spaces all (none_named (run m steps).spaces)

run_fresh : (m : Machine) → IsOrderly m → m.spaces ≡ [] → (steps : ℕ) → EachEntry (IsFresh m steps) (run m steps).spaces
unfolding run step
run_fresh m is none zero = subst (EachEntry (IsFresh m 0)) (sym none) (All-nil _)
run_fresh m is none (suc steps) = subst (λ (t : Machine). EachEntry (IsFresh m (suc steps)) t.spaces) (next_run m steps)
    (step_fresh m steps (stays_orderly m steps is) (run_fresh m is none steps) (run m steps).platform.status refl)

pub runs_cache_fresh : RunsCacheFresh
runs_cache_fresh m steps is none = ready_fresh m steps (stays_orderly m steps is) (run_fresh m is none steps)

-- the front space is for hgatp
front_fresh : (P : GuestRoot → Entry → Type 0) (key : GuestRoot) (spaces : List Space) → FrontIs key spaces → EachEntry P spaces → All (P key) (front spaces)
front_fresh P key [] there all = absurd there
front_fresh P key (s ∷ ss) there all = subst (λ k. All (P k) s.entries) there (All-head (λ (s : Space). All (P s.key) s.entries) s ss all)

pub runs_use_fresh : RunsUseFresh
runs_use_fresh m steps is none folding = let now = run m steps in
    let same : (ready now).platform ≡ now.platform = ap (λ (t : Machine). t.platform) (only_spaces now (most_fills now)) in
    let orderly : IsOrderly (ready now) = filled_orderly (most_fills now) now (stays_orderly m steps is) in
    let there : FrontIs now.platform.virt.csrs.hgatp (ready now).spaces = rw same at (orderly.front (rw same folding)) in
    front_fresh (IsFresh m steps) now.platform.virt.csrs.hgatp (ready now).spaces there (runs_cache_fresh m steps is none)

-- and so of guests
no_spaces : (guest : _) → (start guest).spaces ≡ []
unfolding start
no_spaces guest = refl

pub guests_cache_fresh : GuestsCacheFresh
guests_cache_fresh guest steps entries spaces = runs_cache_fresh (start guest) steps (start_is_orderly guest entries spaces) (no_spaces guest)

pub guests_use_fresh : GuestsUseFresh
guests_use_fresh guest steps entries spaces = runs_use_fresh (start guest) steps (start_is_orderly guest entries spaces) (no_spaces guest)
