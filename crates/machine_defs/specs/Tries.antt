-- One try of a machine's next step: the due interrupt, or one instruction. While the machine folds, its
-- second stage is by the cached translations of the front space (own, within what Privileged Architecture
-- 20211203, 8.3.2 and 8.5, permits).
use Rattle.std.specs.Prelude.{ℕ, ◌&&◌, Bool, true, false, not, List, [], Option, Some, None, unwrap_or, if◌then◌else◌}
use Rattle.arch_defs.specs.declared.cached.Fence.{Fence}
use Rattle.arch_defs.specs.declared.first.FirstEntry.{FirstEntry}
use Rattle.arch_defs.specs.declared.first.Tag.{Tag}
use Rattle.arch_defs.specs.declared.registers.Virtual.{Virtual}
use Rattle.arch_defs.specs.declared.walks.MissingPlace.{MissingPlace}
use Rattle.arch_defs.specs.CachedEntries.{device_by_entries, second_by}
use Rattle.arch_defs.specs.Devices.{is_on_device}
use Rattle.arch_defs.specs.FirstEntries.{all_filled, names_first, names_first_of_guest, unnamed_first}
use Rattle.arch_defs.specs.Interrupts.{due, interrupt_of}
use Rattle.arch_defs.specs.Memory.{Known, Mmu, SecondStage, Stored, bare, mmu, ram_base, ram_memory, reading_of, with_stored}
use Rattle.arch_defs.specs.SecondStage.{OnDevice, missing_place_trap}
use Rattle.arch_defs.specs.Spaces.{Space, entered, fenced, front}
use Rattle.arch_defs.specs.Traps.{is_virtual}
use Rattle.arch_defs.specs.WalkedEntries.{folds}
use Rattle.machine_defs.specs.declared.events.Event.{Event}
use Rattle.machine_defs.specs.declared.events.Event.TheVariants as event
use Rattle.machine_defs.specs.Core.{core}
use Rattle.machine_defs.specs.DeviceSteps.{device_step, on_device}
use Rattle.machine_defs.specs.FirstLeaves.{known_of, leaves_found, tag_of}
use Rattle.op_defs.specs.declared.ops.DataAccess.{DataAccess}
use Rattle.machine_defs.specs.HlvAccesses.{Completes, Device, HlvEnd, Traps, hlv_outcome}
use Rattle.machine_defs.specs.Machine.{Machine, Tried, called, stepped_to, trapped, waited, with_first, with_registers}
use Rattle.machine_defs.specs.Outcomes.{Outcome, Done, Trapped, Missed, Called, Waits, Fenced, FirstFenced, Accesses}

-- a machine's own second stage: the entries of the front space while it folds, else RAM as it is
abbrev pub second_of : Machine → SecondStage
second_of m = let virt = m.platform.virt in
    if folds virt then second_by (front m.spaces) virt.csrs.hs.status.mxr else bare (ram_memory m.ram)

-- where its accesses are on the device page, if it has one: by the entries of the front space while it folds,
-- else by the address
abbrev pub device_of : Machine → OnDevice
device_of m address kind = let virt = m.platform.virt in
    m.device && (if folds virt then device_by_entries (front m.spaces) virt.csrs.hs.status.mxr address kind
    else is_on_device address)

-- what translates the accesses of a try: what is known of virtual addresses, the second stage, and which
-- accesses are on the device page
pub record Stages : Type 0 where
  pub known : Known
  pub second : SecondStage
  pub device : OnDevice

-- a machine's own: what its first-stage translations say is known
abbrev pub stages_of : Machine → Stages
stages_of m = let virt = m.platform.virt in
    record { known = known_of virt.first (tag_of virt) virt; second = second_of m; device = device_of m }

-- what its accesses go through under stages, and under its own
abbrev pub mmu_under : Stages → Machine → Mmu
mmu_under stages m = mmu stages.known stages.second (reading_of (ram_memory m.ram))

abbrev pub mmu_of : Machine → Mmu
mmu_of m = mmu_under (stages_of m) m

-- whether an instruction enters a guest of the guest: it sets V, and then the state folds
abbrev pub enters : Virtual → Virtual → Bool
enters before after = not (is_virtual before.mode) && folds after

-- the spaces after an instruction that leaves this state
abbrev pub spaces_after : Machine → Virtual → List Space
spaces_after m after =
    if enters m.platform.virt after then entered m.space_room after.csrs.hgatp m.spaces else m.spaces

-- an instruction is a step, with what it leaves and stores
abbrev pub committed : Machine → Virtual → Option Stored → Event → Tried
committed m virt stored event =
    stepped_to (record m { ram = with_stored ram_base stored m.ram; spaces = spaces_after m virt })
    (with_registers m.platform virt) event

-- an HLV, HLVX or HSV, as its access ends
abbrev pub hlv_committed : Machine → DataAccess → HlvEnd → Tried
hlv_committed m wanted (Completes completion) = committed m completion.state completion.stored event.System
hlv_committed m wanted (Device missing) = device_step m missing wanted.width wanted.purpose
hlv_committed m wanted (Traps trap) = trapped m trap

-- an access without a place is one to the device page, or the fault of the walk of hgatp's table, as RAM is
-- (8.5, 8.6.1)
abbrev pub unplaced : Machine → MissingPlace → Option DataAccess → Bool → Tried
unplaced m missing wanted true = on_device m missing wanted
unplaced m missing wanted false =
    trapped m (missing_place_trap m.platform.virt.csrs (ram_memory m.ram) missing)

-- a machine without the first-stage translations that are named
abbrev pub first_fenced : (FirstEntry → Bool) → Machine → Machine
first_fenced named m = with_first m (unnamed_first named m.platform.virt.first)

-- a fence that leaves this state and names these
abbrev pub fence_step : (FirstEntry → Bool) → Machine → Virtual → Tried
fence_step named m virt =
    let left = first_fenced named m in stepped_to left (with_registers left.platform virt) event.System

-- which of them the outcome of an instruction names, where the accesses are for whom a tag says, if it is a
-- fence
abbrev pub outcome_names : Tag → Outcome → FirstEntry → Bool
outcome_names tag (Fenced virt fence) e = names_first_of_guest fence e
outcome_names tag (FirstFenced virt named fence) e = names_first (unwrap_or named tag) fence e
outcome_names tag _ e = false

-- what the outcome of an instruction is to the machine. A fence drops the translations that it names (4.2.1,
-- 8.3.1, 8.3.2)
abbrev pub apply_outcome : OnDevice → Machine → Outcome → Tried
apply_outcome device m (Done virt stored event) = committed m virt stored event
apply_outcome device m (Trapped trap) = trapped m trap
apply_outcome device m (Missed missing wanted) =
    unplaced m missing wanted (device missing.address missing.kind)
apply_outcome device m Called = stepped_to m (called m.platform) event.System
apply_outcome device m (Waits virt) = waited m virt
apply_outcome device m (Fenced virt fence) =
    fence_step (names_first_of_guest fence) (record m { spaces = fenced fence m.spaces }) virt
apply_outcome device m (FirstFenced virt named fence) =
    fence_step (names_first (unwrap_or named (tag_of m.platform.virt)) fence) m virt
apply_outcome device m (Accesses wanted) =
    hlv_committed m wanted (hlv_outcome m.device (ram_memory m.ram) m.platform.virt wanted)

-- how its next instruction ends, by what translates its accesses
abbrev pub outcome_under : Stages → Machine → Outcome
outcome_under stages m = core (mmu_under stages m) m.platform.virt

-- the first-stage translations that it finds, and the machine that has cached them
abbrev pub found_by_outcome : Stages → Machine → List FirstEntry
found_by_outcome stages m =
    leaves_found (tag_of m.platform.virt) (mmu_under stages m) m.platform.virt

abbrev pub with_found : Stages → Machine → Machine
with_found stages m =
    with_first m (all_filled m.platform.virt.first (found_by_outcome stages m))

-- the interrupt of this code, if one is due, or else one instruction, which has cached what it found, however
-- it ends
abbrev pub tried_with : Stages → Machine → Option ℕ → Tried
tried_with stages m (Some code) = trapped m (interrupt_of code)
tried_with stages m None = apply_outcome stages.device (with_found stages m) (outcome_under stages m)

-- one try, by what translates its accesses
unfoldable pub try_under : Stages → Machine → Tried
try_under stages m = tried_with stages m (due m.platform.virt.csrs m.platform.virt.mode)

-- one try
abbrev pub try : Machine → Tried
try m = try_under (stages_of m) m

-- the fence that a try is, if it is one
abbrev pub outcome_fence : Outcome → Option Fence
outcome_fence (Fenced virt fence) = Some fence
outcome_fence _ = None

abbrev pub fence_with : Stages → Machine → Option ℕ → Option Fence
fence_with stages m (Some code) = None
fence_with stages m None = outcome_fence (outcome_under stages m)

unfoldable pub fence_under : Stages → Machine → Option Fence
fence_under stages m = fence_with stages m (due m.platform.virt.csrs m.platform.virt.mode)

-- the first-stage translations that a try finds, and whether it names one as a fence
abbrev pub found_with_code : Stages → Machine → Option ℕ → List FirstEntry
found_with_code stages m (Some code) = []
found_with_code stages m None = found_by_outcome stages m

unfoldable pub found_by_try : Stages → Machine → List FirstEntry
found_by_try stages m = found_with_code stages m (due m.platform.virt.csrs m.platform.virt.mode)

abbrev pub named_with_code : Stages → Machine → Option ℕ → FirstEntry → Bool
named_with_code stages m (Some code) e = false
named_with_code stages m None e = outcome_names (tag_of m.platform.virt) (outcome_under stages m) e

unfoldable pub named_by_try : Stages → Machine → FirstEntry → Bool
named_by_try stages m e = named_with_code stages m (due m.platform.virt.csrs m.platform.virt.mode) e
