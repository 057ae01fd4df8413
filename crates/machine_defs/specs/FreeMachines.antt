-- A machine that caches translations freely: before each step it may walk the tables of hgatp and of satp or
-- vsatp and cache the translations, and drop what it has cached; each access goes by what is cached or by a
-- walk; and what a fence names is dropped (Privileged Architecture 20211203, 4.2.1, 4.3.2, 8.2.10, 8.3.1,
-- 8.3.2 and 8.5). It is narrower than the architecture in nine points (own):
-- 1. A walk reads all its entries at once, and none above the leaf is cached.
-- 2. Equal accesses of one step have equal places.
-- 3. A fault is always that of the walk as RAM is.
-- 4. HLV, HLVX and HSV go by this walk alone.
-- 5. Translations of the first stage are cached of the present mode's own register alone, where its privilege
--    permits the access.
-- 6. All that is cached is cached before a step.
-- 7. A first-stage translation serves under one whole value of satp, or of vsatp and hgatp, and under no
--    other one with the same ASID or VMID, also where its leaf is global.
-- 8. A fence of the first stage by ASID drops translations of global leaves too.
-- 9. HFENCE.GVMA by page drops all first-stage translations of the VMID.
use Rattle.std.specs.Prelude.{ℕ, zero, suc, ◌≡◌, ◌/◌, ◌⊎◌, ◌&&◌, Bool, true, false, List, [], Option, Some, None, All, Contains, flat_map, map}
use Rattle.arch_defs.specs.declared.cached.Entry.{Entry}
use Rattle.arch_defs.specs.declared.cached.Fence.{Fence}
use Rattle.arch_defs.specs.declared.first.FirstEntry.{FirstEntry}
use Rattle.arch_defs.specs.declared.modes.Access.{Access}
use Rattle.arch_defs.specs.declared.modes.Mode.{Mode}
use Rattle.arch_defs.specs.declared.modes.Mode.TheVariants.{HS, U, VS, VU}
use Rattle.arch_defs.specs.declared.registers.HypervisorStatus.{HypervisorStatus}
use Rattle.arch_defs.specs.declared.registers.Virtual.{Virtual}
use Rattle.arch_defs.specs.CachedEntries.{device_by, leaf_of, place_by}
use Rattle.arch_defs.specs.FirstEntries.{is_first_of, known_by}
use Rattle.arch_defs.specs.Memory.{Known, SecondStage, mmu, nothing_known, ram_memory, reading_of}
use Rattle.arch_defs.specs.Permits.{permits_second}
use Rattle.arch_defs.specs.SecondStage.{device_by_walk, second_by_walk}
use Rattle.arch_defs.specs.Roots.{names_table, vmid_of}
use Rattle.arch_defs.specs.Spaces.{Space, names}
use Rattle.arch_defs.specs.Translation.{privilege_of, supervisor_of}
use Rattle.arch_defs.specs.Traps.{is_virtual}
use Rattle.arch_defs.specs.WalkedEntries.{entry_by_walk, folds}
use Rattle.guest_settings.specs.declared.statuses.Status.{Status}
use Rattle.guest_settings.specs.declared.statuses.Status.TheVariants.{Running, Waiting, Stopped}
use Rattle.machine_defs.specs.FirstLeaves.{entry_walked, tag_of}
use Rattle.machine_defs.specs.Machine.{Machine, Platform}
use Rattle.machine_defs.specs.Runs.{left_by, run}
use Rattle.machine_defs.specs.Tries.{Stages, fence_under, named_by_try, try_under}

-- a cached translation, for the virtual machine of a VMID (8.2.10). It is of one guest physical page,
-- whatever the level of the leaf; a fence that names any page of the leaf names it
pub record CachedTranslation : Type 0 where
  pub vmid : ℕ
  pub entry : Entry

-- a machine, and the translations of the second stage that it has cached: any number, and any number for one
-- page and VMID. In the buffer's place it has any number of the first stage, and any for one page and the
-- same accesses (4.3.2)
pub record FreeMachine : Type 0 where
  pub platform : Platform
  pub ram : List ℕ
  pub cache : List CachedTranslation
  pub device : Bool

-- whether hgatp is active: always but in U without hstatus.HU (8.2.10)
abbrev pub is_active : HypervisorStatus → Mode → Bool
is_active hstatus HS = true
is_active hstatus U = hstatus.hu
is_active hstatus VS = true
is_active hstatus VU = true

-- when a machine may cache a translation, and when its accesses may go by one that it has cached
pub record Caching : Type 0 where
  pub walks : Virtual → Bool
  pub serves : Virtual → Bool

-- while it folds alone (own)
abbrev pub while_folding : Caching
while_folding = record { walks = folds; serves = folds }

-- as often as the architecture lets a machine: a translation may be cached whenever hgatp is active, whatever
-- the machine then executes, and serves whenever V = 1, whether or not hgatp still names a table (4.3.2,
-- 8.2.10, 8.3.2)
abbrev pub while_active : Caching
while_active = record {
  walks = λ virt. is_active virt.csrs.hstatus virt.mode;
  serves = λ virt. is_virtual virt.mode;
}

-- a translation that may be cached: under hgatp's VMID, that of a walk of its table as RAM is, for an access
-- of any kind at any address
pub record IsWalked (caching : Caching) (device : Bool) (virt : Virtual) (ram : List ℕ)
    (cached : CachedTranslation) : Type 0 where
  pub active : caching.walks virt ≡ true
  pub vmid : cached.vmid ≡ vmid_of virt.csrs.hgatp
  pub address : ℕ
  pub kind : Access
  pub walked : entry_by_walk device virt.csrs ram address kind ≡ Some cached.entry

-- what the second stage answers for an access: its place in RAM, if any, and whether it is on the device page
pub record Answer : Type 0 where
  pub place : Option ℕ
  pub device : Bool

-- by a cached translation: by one of hgatp's VMID and of the address's page that permits the access. Which
-- table it was walked from is not asked: a write of hgatp is not a fence (8.2.10, 8.3.2)
pub record IsByCache (caching : Caching) (device : Bool) (virt : Virtual) (cache : List CachedTranslation)
    (address : ℕ) (kind : Access) (answer : Answer) : Type 0 where
  pub serving : caching.serves virt ≡ true
  pub cached : CachedTranslation
  pub held : Contains cache cached
  pub vmid : cached.vmid ≡ vmid_of virt.csrs.hgatp
  pub page : cached.entry.page ≡ address / 4096
  pub permits : permits_second virt.csrs.hs.status.mxr kind (leaf_of cached.entry) ≡ true
  pub place : answer.place ≡ place_by virt.csrs.hs.status.mxr address kind (Some cached.entry)
  pub on_device : answer.device ≡ (device && device_by virt.csrs.hs.status.mxr kind (Some cached.entry))

-- by the walk of hgatp's table as RAM is
pub record IsByWalk (device : Bool) (virt : Virtual) (ram : List ℕ) (address : ℕ) (kind : Access)
    (answer : Answer) : Type 0 where
  pub place : answer.place ≡ second_by_walk virt.csrs virt.mode (ram_memory ram) address kind
  pub on_device :
      answer.device ≡ (device && device_by_walk virt.csrs virt.mode (ram_memory ram) address kind)

-- a first-stage translation that may be cached: that of a walk for an access of the machine, under a second
-- stage that it may have (4.2.1, 4.3.2)
pub record IsFirstWalked (virt : Virtual) (ram : List ℕ) (second : SecondStage) (e : FirstEntry)
    : Type 0 where
  pub va : ℕ
  pub access : Access
  pub walked :
      entry_walked (tag_of virt) (mmu nothing_known second (reading_of (ram_memory ram))) virt va access
      ≡ Some e

-- what is known of a virtual address by a cached first-stage translation: by one of the address's page for
-- the present V, hgatp and satp or vsatp, which names a table, if it permits the access (4.2.1, 8.3.1)
pub record IsByFirst (virt : Virtual) (first : List FirstEntry) (va : ℕ) (access : Access)
    (known : Option ℕ) : Type 0 where
  pub table : names_table (supervisor_of virt.csrs virt.mode).atp ≡ true
  pub entry : FirstEntry
  pub held : Contains first entry
  pub key :
      is_first_of (tag_of virt) (supervisor_of virt.csrs virt.mode).atp (va / 4096) entry ≡ true
  pub place : known ≡ known_by (privilege_of virt.csrs virt.mode) va access (Some entry)

-- what a machine with these translations may know: each address by one of them, or not at all
abbrev pub MayKnow : Virtual → List FirstEntry → Known → Type 0
MayKnow virt first known = (va : ℕ) (access : Access)
    → IsByFirst virt first va access (known va access) ⊎ (known va access ≡ None)

-- the answer of stages
abbrev pub answer_by : Stages → ℕ → Access → Answer
answer_by stages address kind =
    record { place = stages.second address kind; device = stages.device address kind }

-- stages that a machine with these translations may have: what is known is by those of the first stage, and
-- each answer of the second stage is by a cached translation, or by the walk of hgatp's table as RAM is (8.5)
pub record MayTranslate (caching : Caching) (device : Bool) (virt : Virtual) (ram : List ℕ)
    (cache : List CachedTranslation) (first : List FirstEntry) (stages : Stages) : Type 0 where
  pub known : MayKnow virt first stages.known
  pub answers : (address : ℕ) (kind : Access)
      → IsByCache caching device virt cache address kind (answer_by stages address kind)
      ⊎ IsByWalk device virt ram address kind (answer_by stages address kind)

-- a platform without its first-stage translations
abbrev pub without_buffer : Platform → Platform
without_buffer p = record p { virt = record p.virt { first = [] } }

-- the machine without its cache, and what one try of its next step under stages leaves of it
abbrev pub uncached : FreeMachine → Machine
uncached f = record {
  platform = f.platform;
  ram = f.ram;
  spaces = [];
  space_room = 0;
  entry_room = 0;
  device = f.device;
}

abbrev pub left_under : Stages → FreeMachine → Machine
left_under stages f = left_by (uncached f) (try_under stages (uncached f))

-- whether a step that may be a fence names a translation (8.3.2)
abbrev pub is_named : Option Fence → ℕ → Entry → Bool
is_named None vmid e = false
is_named (Some fence) vmid e = names fence vmid e

-- one step. Before it, some translations were dropped and some were walked: what is cached then is `cache`,
-- and of the first stage `first`. The step is made under stages that a machine with these may have. After it
-- nothing else is cached, and nothing that the step names, if it is a fence (4.2.1, 8.3.1, 8.3.2)
pub record FreeStep (caching : Caching) (f g : FreeMachine) : Type 0 where
  pub cache : List CachedTranslation
  pub allowed : All (λ c. Contains f.cache c ⊎ IsWalked caching f.device f.platform.virt f.ram c) cache
  pub stages : Stages
  pub first : List FirstEntry
  pub first_allowed :
      All (λ e. Contains f.platform.virt.first e ⊎ IsFirstWalked f.platform.virt f.ram stages.second e) first
  pub translates : MayTranslate caching f.device f.platform.virt f.ram cache first stages
  pub platform : without_buffer g.platform ≡ without_buffer (left_under stages f).platform
  pub ram : g.ram ≡ (left_under stages f).ram
  pub device : g.device ≡ f.device
  pub kept : All (Contains cache) g.cache
  pub fenced : All (λ c. is_named (fence_under stages (uncached f)) c.vmid c.entry ≡ false) g.cache
  pub first_kept : All (Contains first) g.platform.virt.first
  pub first_fenced : All (λ e. named_by_try stages (uncached f) e ≡ false) g.platform.virt.first

-- a machine that waits and cannot wake, or that has stopped, makes no step
abbrev pub FreeMove : Caching → Status → FreeMachine → FreeMachine → Type 0
FreeMove caching Running f g = FreeStep caching f g
FreeMove caching Waiting f g = g ≡ f
FreeMove caching Stopped f g = g ≡ f

-- a run of at most `steps` steps
abbrev pub FreeRun : Caching → ℕ → FreeMachine → FreeMachine → Type 0
FreeRun caching zero f h = h ≡ f
FreeRun caching (suc steps) f h =
    (g : FreeMachine) × FreeMove caching f.platform.status f g × FreeRun caching steps g h

-- a lone machine as a free one: it has cached the entries of all its spaces, each for the VMID of its key,
-- and its first-stage translations
abbrev pub cached_in : Space → List CachedTranslation
cached_in s = map (λ e. record { vmid = vmid_of s.key; entry = e }) s.entries

abbrev pub free_of : Machine → FreeMachine
free_of m = record {
  platform = m.platform;
  ram = m.ram;
  cache = flat_map cached_in m.spaces;
  device = m.device;
}

-- the first `steps` steps of a lone machine are architectural: a run of a free machine, which caches while it
-- folds
abbrev pub IsArchitectural : Machine → ℕ → Type 0
IsArchitectural m steps = FreeRun while_folding steps (free_of m) (free_of (run m steps))
