-- How long a cached translation is used: until a fence that names it, and no longer (Privileged Architecture
-- 20211203, 4.2.1, 8.3.1 and 8.3.2).
use Rattle.std.specs.Prelude.{ℕ, ◌≡◌, ◌*◌, ◌<◌, ◌≤◌, Bool, true, false, List, [], Option, Some, None, All, Contains}
use Rattle.arch_defs.specs.declared.cached.Entry.{Entry}
use Rattle.arch_defs.specs.declared.cached.Fence.{Fence}
use Rattle.arch_defs.specs.declared.first.FirstEntry.{FirstEntry}
use Rattle.arch_defs.specs.declared.modes.Access.{Access}
use Rattle.arch_defs.specs.declared.roots.GuestRoot.{GuestRoot}
use Rattle.arch_defs.specs.Roots.{vmid_of}
use Rattle.arch_defs.specs.Spaces.{front}
use Rattle.arch_defs.specs.WalkedEntries.{entry_by_walk, folds}
use Rattle.guest_settings.specs.declared.statuses.Status.{Status}
use Rattle.guest_settings.specs.declared.statuses.Status.TheVariants.{Running, Waiting, Stopped}
use Rattle.machine_defs.specs.Fills.{ready}
use Rattle.machine_defs.specs.FreeMachines.{is_named}
use Rattle.machine_defs.specs.Machine.{Ended, Machine, Tried, WaitsForGood}
use Rattle.machine_defs.specs.Runs.{run}
use Rattle.machine_defs.specs.Tries.{fence_under, found_by_try, named_by_try, stages_of, try}

-- the fence that the next step of a machine is, if it is one
abbrev pub fence_by_status : Machine → Status → Option Fence
fence_by_status m Running = fence_under (stages_of m) m
fence_by_status m Waiting = None
fence_by_status m Stopped = None

unfoldable pub next_fence : Machine → Option Fence
next_fence m = fence_by_status (ready m) m.platform.status

-- an entry for a value of hgatp is fresh after the first `steps` steps of a run: under this value a walk gave
-- it for its page, as RAM was after the first `walked_after` of them, and none of the later ones was a fence
-- that names it
pub record IsFresh (m : Machine) (steps : ℕ) (key : GuestRoot) (e : Entry) : Type 0 where
  pub walked_after : ℕ
  pub earlier : walked_after ≤ steps
  pub root : (run m walked_after).platform.virt.csrs.hgatp ≡ key
  pub kind : Access
  pub walked :
      let walking = run m walked_after in
      entry_by_walk walking.device walking.platform.virt.csrs walking.ram (4096 * e.page) kind ≡ Some e
  pub unfenced : (i : ℕ) → walked_after ≤ i → i < steps
      → is_named (next_fence (run m i)) (vmid_of key) e ≡ false

-- so is each entry of each space, at the last try of the next step
abbrev pub CachesFresh : Machine → ℕ → Type 0
CachesFresh m steps = All (λ s. All (IsFresh m steps s.key) s.entries) (ready (run m steps)).spaces

-- and each that the step may use: one of the front space, for hgatp as it is
abbrev pub UsesFresh : Machine → ℕ → Type 0
UsesFresh m steps = let virt = (run m steps).platform.virt in
    folds virt ≡ true → All (IsFresh m steps virt.csrs.hgatp) (front (ready (run m steps)).spaces)

-- the first-stage translations that the next step of a machine finds; a wait for good is not a step, and
-- finds none
abbrev pub found_if_ended : List FirstEntry → Tried → List FirstEntry
found_if_ended found (Ended after event) = found
found_if_ended found WaitsForGood = []

abbrev pub found_by_status : Machine → Status → List FirstEntry
found_by_status m Running = found_if_ended (found_by_try (stages_of m) m) (try m)
found_by_status m Waiting = []
found_by_status m Stopped = []

unfoldable pub next_found : Machine → List FirstEntry
next_found m = found_by_status (ready m) m.platform.status

-- and whether it names one as a fence
abbrev pub named_by_status : Machine → Status → FirstEntry → Bool
named_by_status m Running e = named_by_try (stages_of m) m e
named_by_status m Waiting e = false
named_by_status m Stopped e = false

unfoldable pub next_named : Machine → FirstEntry → Bool
next_named m e = named_by_status (ready m) m.platform.status e

-- a first-stage translation is fresh after the first `steps` steps of a run: one of them found it, and none
-- from that one on was a fence that names it
pub record IsFirstFresh (m : Machine) (steps : ℕ) (e : FirstEntry) : Type 0 where
  pub found_in : ℕ
  pub earlier : found_in < steps
  pub found : Contains (next_found (run m found_in)) e
  pub unfenced : (i : ℕ) → found_in ≤ i → i < steps → next_named (run m i) e ≡ false

-- so is each that the next step may use
abbrev pub FirstFresh : Machine → ℕ → Type 0
FirstFresh m steps = All (IsFirstFresh m steps) (run m steps).platform.virt.first
