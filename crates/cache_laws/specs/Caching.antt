-- Laws of caching: every run is architectural, and what it uses is fresh.
use Rattle.std.specs.Prelude.{ℕ, ◌≡◌, ◌/◌, ◌≤◌, ◌==◌, ◌&&◌, Bool, true, [], Option, Some, None}
use Rattle.arch_defs.specs.declared.cached.Fence.{Fence}
use Rattle.arch_defs.specs.declared.modes.Access.{Access}
use Rattle.arch_defs.specs.Memory.{Known, nothing_known, ram_memory}
use Rattle.arch_defs.specs.SecondStage.{device_by_walk, second_by_walk}
use Rattle.arch_defs.specs.Roots.{vmid_of}
use Rattle.arch_defs.specs.Spaces.{names_vmid}
use Rattle.guest_settings.specs.declared.guests.GuestSpec.{GuestSpec}
use Rattle.machine_defs.specs.Fills.{needed}
use Rattle.machine_defs.specs.FreeMachines.{FreeMachine, FreeRun, FreeStep, IsArchitectural, answer_by, left_under, uncached, while_active, without_buffer, while_folding}
use Rattle.machine_defs.specs.Freshness.{CachesFresh, FirstFresh, UsesFresh}
use Rattle.machine_defs.specs.Machine.{Machine, start}
use Rattle.machine_defs.specs.Tries.{Stages, fence_under}
use Rattle.fill_laws.specs.Keeping.{IsOrderly}

-- every run of an orderly machine is architectural
abbrev pub RunsAreArchitectural : Type 0
RunsAreArchitectural = (m : Machine) (steps : ℕ) → IsOrderly m → IsArchitectural m steps

-- and so each guest's, which has cached nothing at its start
abbrev pub GuestsAreArchitectural : Type 0
GuestsAreArchitectural = (guest : GuestSpec) (steps : ℕ) → needed ≤ guest.entries → 1 ≤ guest.spaces
    → IsArchitectural (start guest) steps

-- each run of a free machine that caches while it folds is one of a free machine that caches as often as the
-- architecture lets it
abbrev pub FoldingRunsAreActive : Type 0
FoldingRunsAreActive =
    (f h : FreeMachine) (steps : ℕ) → FreeRun while_folding steps f h → FreeRun while_active steps f h

-- a step of a free machine leaves what one try under these stages does, but for what is cached
pub record IsStepUnder (stages : Stages) (f g : FreeMachine) : Type 0 where
  pub platform : without_buffer g.platform ≡ without_buffer (left_under stages f).platform
  pub ram : g.ram ≡ (left_under stages f).ram

-- the stages of which each answer is by the walk of hgatp's table as RAM is, where this is known of virtual
-- addresses
abbrev pub by_walks : FreeMachine → Known → Stages
by_walks f known = let virt = f.platform.virt in record {
  known = known;
  second = second_by_walk virt.csrs virt.mode (ram_memory f.ram);
  device = λ address kind. f.device && device_by_walk virt.csrs virt.mode (ram_memory f.ram) address kind;
}

-- where nothing of the second stage is cached, a step is made under these
abbrev pub UncachedByWalks : Type 0
UncachedByWalks = (f g : FreeMachine) (s : FreeStep while_active f g) → f.cache ≡ []
    → IsStepUnder (by_walks f s.stages.known) f g

-- and nothing is known of virtual addresses where nothing of the first stage is cached
abbrev pub NothingIsKnown : Type 0
NothingIsKnown = (f g : FreeMachine) (s : FreeStep while_active f g) → s.first ≡ []
    → s.stages.known ≡ nothing_known

-- whether what a fence names is the page of an address, or every page
abbrev pub names_address : Option ℕ → ℕ → Bool
names_address None address = true
names_address (Some page) address = page == address / 4096

-- in the step after a fence, each access of a VMID and a page that the fence names is made by that walk too:
-- its translation sees what was stored before the fence (8.3.2)
abbrev pub FencedByWalks : Type 0
FencedByWalks = (f g h : FreeMachine) (before : FreeStep while_active f g) (after : FreeStep while_active g h)
    (fence : Fence) (address : ℕ) (kind : Access) → fence_under before.stages (uncached f) ≡ Some fence
    → names_vmid fence.vmid (vmid_of g.platform.virt.csrs.hgatp) ≡ true
    → names_address fence.page address ≡ true
    → answer_by after.stages address kind ≡ answer_by (by_walks g after.stages.known) address kind

-- in every run of an orderly machine that begins without spaces, all cached translations are fresh
abbrev pub RunsCacheFresh : Type 0
RunsCacheFresh = (m : Machine) (steps : ℕ) → IsOrderly m → m.spaces ≡ [] → CachesFresh m steps

-- so are those that the next step may use
abbrev pub RunsUseFresh : Type 0
RunsUseFresh = (m : Machine) (steps : ℕ) → IsOrderly m → m.spaces ≡ [] → UsesFresh m steps

-- and so in each guest's run
abbrev pub GuestsCacheFresh : Type 0
GuestsCacheFresh = (guest : GuestSpec) (steps : ℕ) → needed ≤ guest.entries → 1 ≤ guest.spaces
    → CachesFresh (start guest) steps

abbrev pub GuestsUseFresh : Type 0
GuestsUseFresh = (guest : GuestSpec) (steps : ℕ) → needed ≤ guest.entries → 1 ≤ guest.spaces
    → UsesFresh (start guest) steps

-- in every run that begins without first-stage translations, all that the next step may use are fresh
abbrev pub RunsFirstFresh : Type 0
RunsFirstFresh = (m : Machine) (steps : ℕ) → m.platform.virt.first ≡ [] → FirstFresh m steps

-- and so in each guest's run
abbrev pub GuestsFirstFresh : Type 0
GuestsFirstFresh = (guest : GuestSpec) (steps : ℕ) → FirstFresh (start guest) steps
