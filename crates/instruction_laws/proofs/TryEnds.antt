-- How a try ends: with a trap, with what an instruction leaves, with a load or a store of the device page, with
-- a call of the environment, with a wait, or with a fence.
use Rattle.std.specs.Prelude.{◌%◌, ◌==◌, ◌&&◌, option_map, unwrap_or}
use Rattle.std.proofs.Common.{cond, ◌≡◌, ℕ, ◌+◌, ◌⊎◌, inl, inr, Bool, true, false, List, Option, Some, None, refl}
use Rattle.arch_defs.specs.declared.cached.Fence.{Fence}
use Rattle.arch_defs.specs.declared.first.FirstEntry.{FirstEntry}
use Rattle.arch_defs.specs.declared.modes.Trap.{Trap}
use Rattle.arch_defs.specs.declared.registers.Virtual.{Virtual}
use Rattle.arch_defs.specs.declared.walks.MissingPlace.{MissingPlace}
use Rattle.arch_defs.specs.declared.widths.Width.{Width}
use Rattle.arch_defs.specs.Consoles.{ConsoleState, has_room}
use Rattle.arch_defs.specs.Devices.{DeviceEnd, device_loaded, device_status, device_stored, with_output}
use Rattle.arch_defs.specs.FirstEntries.{names_first, names_first_of_guest, unnamed_first}
use Rattle.arch_defs.specs.Inputs.{next_input, unread_after}
use Rattle.arch_defs.specs.Interrupts.{due, interrupt_of}
use Rattle.arch_defs.specs.Memory.{ram_memory}
use Rattle.arch_defs.specs.Registers.{sets}
use Rattle.arch_defs.specs.SecondStage.{OnDevice, is_implicit, missing_place_trap}
use Rattle.arch_defs.specs.Spaces.{fenced}
use Rattle.arch_defs.specs.Traps.{missing_place_fault}
use Rattle.arch_defs.specs.Waits.{wake_moment}
use Rattle.arch_defs.specs.Widths.{bytes_in, extended}
use Rattle.op_defs.specs.declared.ops.DataAccess.{DataAccess}
use Rattle.op_defs.specs.declared.ops.Purpose.{Purpose}
use Rattle.op_defs.specs.declared.ops.Purpose.TheVariants.{Load, LoadCode, Store, Reserve, StoreReserved, Modify}
use Rattle.machine_defs.specs.declared.events.Event.{Event}
use Rattle.machine_defs.specs.declared.events.Event.TheVariants.{System}
use Rattle.machine_defs.specs.Core.{Completion, completion_of}
use Rattle.machine_defs.specs.DeviceSteps.{device_step, device_wanted, served, with_loaded, with_put}
use Rattle.machine_defs.specs.FirstLeaves.{tag_of}
use Rattle.machine_defs.specs.HlvAccesses.{Completes, Device, HlvEnd, Traps, hlv_outcome}
use Rattle.machine_defs.specs.Machine.{with_first, with_registers, Ended, Machine, Platform, Tried, WaitsForGood, called, has_enabled_interrupt, made_by, stepped_to, trapped, waited, waited_until}
use Rattle.machine_defs.specs.Outcomes.{Outcome, Done, Trapped, Missed, Called, Waits, Fenced, FirstFenced, Accesses}
use Rattle.machine_defs.specs.Tries.{Stages, apply_outcome, committed, fence_under, fence_with, hlv_committed, outcome_fence, outcome_under, tried_with, try_under, unplaced, with_found}
use Rattle.instruction_laws.specs.InstructionEnds.{HlvHas, OutcomeHas}
use Rattle.instruction_laws.proofs.Cached.{either}

-- a machine after a step that leaves this state and ends at this moment
abbrev pub passed_at : Machine → Virtual → ℕ → Machine
passed_at m virt moment = record m { platform = made_by (with_registers m.platform virt) moment }

-- what the device page leaves of the inputs that are unread: all of them, or those after the one that it reads
abbrev pub LeavesUnread : Platform → ConsoleState → Type 0
LeavesUnread p console =
    (console.inputs ≡ p.console.inputs) ⊎ (console.inputs ≡ unread_after p.console.inputs p.clock.time)

-- how a try of m ends, with which first-stage translations, and the fence that it is, if it is one of the second
-- stage
pub data TryEnd (L : Completion → Type 0) (P : Virtual → Type 0) (m : Machine) : Tried → Option Fence → Type 0 where
  -- a trap is taken
  Takes : (first : List FirstEntry) (trap : Trap) → TryEnd L P m (trapped (with_first m first) trap) None
  -- an instruction completes
  Makes : (first : List FirstEntry) (completion : Completion) (event : Event) → L completion
      → TryEnd L P m (committed (with_first m first) completion.state completion.stored event) None
  -- a load or a store of the device page: a register gets a value, or x0 none
  Serves : (first : List FirstEntry) (rd value : ℕ) (console : ConsoleState) → LeavesUnread m.platform console
      → TryEnd L P m (stepped_to (with_first m first) (record (with_registers (with_first m first).platform (sets m.platform.virt rd value)) { console = console }) System) None
  -- a call of the environment
  Calls : (first : List FirstEntry) → TryEnd L P m (stepped_to (with_first m first) (called (with_first m first).platform) System) None
  -- a wait ends at a moment, or never; or a fence of the first stage ends at the next
  Passes : (first : List FirstEntry) (virt : Virtual) (moment : ℕ) → P virt → TryEnd L P m (Ended (passed_at (with_first m first) virt moment) System) None
  Halts : TryEnd L P m WaitsForGood None
  -- a fence of the second stage drops the entries that it names
  Fences : (first : List FirstEntry) (virt : Virtual) (fence : Fence) → P virt
      → TryEnd L P m (stepped_to (record (with_first m first) { spaces = fenced fence m.spaces }) (with_registers (with_first m first).platform virt) System) (Some fence)

until_end : (L : Completion → Type 0) (P : Virtual → Type 0) (m : Machine) (first : List FirstEntry) (virt : Virtual) → P virt → (moment : Option ℕ)
    → TryEnd L P m (waited_until (with_first m first) virt moment) None
until_end L P m first virt has (Some moment) = Passes first virt moment has
until_end L P m first virt has None = Halts

waited_end : (L : Completion → Type 0) (P : Virtual → Type 0) (m : Machine) (first : List FirstEntry) (virt : Virtual) → P virt → TryEnd L P m (waited (with_first m first) virt) None
waited_end L P m first virt has = by (has_enabled_interrupt m.platform.virt.csrs)
  where
    by : (b : Bool) → TryEnd L P m (cond b (stepped_to (with_first m first) (with_registers (with_first m first).platform virt) System)
        (waited_until (with_first m first) virt (wake_moment m.platform.virt.csrs.sie m.platform.clock.timer (next_input m.platform.console.inputs)))) None
    by true = Passes first virt (m.platform.clock.time + 1) has
    by false = until_end L P m first virt has _

-- the device page: the end of a load or of a store, if there is one, leaves the console so
abbrev HasConsole : Platform → Option DeviceEnd → Type 0
HasConsole p None = Unit {0}
HasConsole p (Some end) = LeavesUnread p end.console

loaded_console : (p : Platform) (offset bytes : ℕ) → HasConsole p (device_loaded offset bytes p.console p.clock.time)
unfolding device_loaded
loaded_console p offset bytes = either (HasConsole p) (offset == 0 && bytes == 1) _ _ (inr refl)
    (either (HasConsole p) (offset == 8 && bytes == 8) (Some (record { value = device_status p.console p.clock.time; console = p.console })) None (inl refl) tt)

stored_console : (p : Platform) (offset bytes value : ℕ) → HasConsole p (device_stored offset bytes value p.console)
unfolding device_stored
stored_console p offset bytes value = either (HasConsole p) (offset == 0 && bytes == 1) (Some (record { value = 0; console = with_output p.console (value % 256) })) None
    (either (LeavesUnread p) (has_room p.console) _ p.console (inl refl) (inl refl)) tt

loaded_end : (L : Completion → Type 0) (P : Virtual → Type 0) (m : Machine) (first : List FirstEntry) (missing : MissingPlace) (width : Width) (signed : Bool) (rd : ℕ) (end : Option DeviceEnd)
    → HasConsole m.platform end → TryEnd L P m (served (with_first m first) missing (option_map (with_loaded (with_first m first).platform.virt width signed rd) end)) None
loaded_end L P m first missing width signed rd None has = Takes first (missing_place_fault missing)
loaded_end L P m first missing width signed rd (Some end) has = Serves first rd (extended width signed end.value) end.console has

put_end : (L : Completion → Type 0) (P : Virtual → Type 0) (m : Machine) (first : List FirstEntry) (missing : MissingPlace) (end : Option DeviceEnd)
    → HasConsole m.platform end → TryEnd L P m (served (with_first m first) missing (option_map (with_put (with_first m first).platform.virt) end)) None
put_end L P m first missing None has = Takes first (missing_place_fault missing)
put_end L P m first missing (Some end) has = Serves first 0 0 end.console has

device_end : (L : Completion → Type 0) (P : Virtual → Type 0) (m : Machine) (first : List FirstEntry) (missing : MissingPlace) (width : Width) (purpose : Purpose)
    → TryEnd L P m (device_step (with_first m first) missing width purpose) None
device_end L P m first missing width (Load signed rd) = loaded_end L P m first missing width signed rd
    (device_loaded (missing.address % 4096) (bytes_in width) m.platform.console m.platform.clock.time) (loaded_console m.platform (missing.address % 4096) (bytes_in width))
device_end L P m first missing width (LoadCode rd) = Takes first (missing_place_fault missing)
device_end L P m first missing width (Store value) = put_end L P m first missing
    (device_stored (missing.address % 4096) (bytes_in width) value m.platform.console) (stored_console m.platform (missing.address % 4096) (bytes_in width) value)
device_end L P m first missing width (Reserve rd) = Takes first (missing_place_fault missing)
device_end L P m first missing width (StoreReserved value rd) = Takes first (missing_place_fault missing)
device_end L P m first missing width (Modify op operand rd) = Takes first (missing_place_fault missing)

wanted_end : (L : Completion → Type 0) (P : Virtual → Type 0) (m : Machine) (first : List FirstEntry) (missing : MissingPlace) (wanted : Option DataAccess)
    → TryEnd L P m (device_wanted (with_first m first) missing wanted) None
wanted_end L P m first missing None = Takes first (missing_place_fault missing)
wanted_end L P m first missing (Some wanted) = device_end L P m first missing wanted.width wanted.purpose

unplaced_end : (L : Completion → Type 0) (P : Virtual → Type 0) (m : Machine) (first : List FirstEntry) (missing : MissingPlace) (wanted : Option DataAccess) (on : Bool)
    → TryEnd L P m (unplaced (with_first m first) missing wanted on) None
unplaced_end L P m first missing wanted true = either (λ t. TryEnd L P m t None) (is_implicit missing.kind) (trapped (with_first m first) (missing_place_fault missing)) (device_wanted (with_first m first) missing wanted)
    (Takes first (missing_place_fault missing)) (wanted_end L P m first missing wanted)
unplaced_end L P m first missing wanted false = Takes first (missing_place_trap m.platform.virt.csrs (ram_memory m.ram) missing)

hlv_end : (L : Completion → Type 0) (P : Virtual → Type 0) (m : Machine) (first : List FirstEntry) (wanted : DataAccess) (end : HlvEnd) → HlvHas L end → TryEnd L P m (hlv_committed (with_first m first) wanted end) None
hlv_end L P m first wanted (Completes completion) has = Makes first completion System has
hlv_end L P m first wanted (Device missing) has = device_end L P m first missing wanted.width wanted.purpose
hlv_end L P m first wanted (Traps trap) has = Takes first trap

concluded_end : (L : Completion → Type 0) (P : Virtual → Type 0) (A : DataAccess → Type 0) (m : Machine) (first : List FirstEntry) (device : OnDevice)
    → ((wanted : DataAccess) → A wanted → HlvHas L (hlv_outcome m.device (ram_memory m.ram) (with_first m first).platform.virt wanted))
    → (o : Outcome) → OutcomeHas L P A o → TryEnd L P m (apply_outcome device (with_first m first) o) (outcome_fence o)
concluded_end L P A m first device hlv (Done virt stored event) has = Makes first (completion_of virt stored) event has
concluded_end L P A m first device hlv (Trapped trap) has = Takes first trap
concluded_end L P A m first device hlv (Missed missing wanted) has = unplaced_end L P m first missing wanted (device missing.address missing.kind)
concluded_end L P A m first device hlv Called has = Calls first
concluded_end L P A m first device hlv (Waits virt) has = waited_end L P m first virt has
concluded_end L P A m first device hlv (Fenced virt fence) has = Fences (unnamed_first (names_first_of_guest fence) first) virt fence has
concluded_end L P A m first device hlv (FirstFenced virt named fence) has =
    Passes (unnamed_first (names_first (unwrap_or named (tag_of m.platform.virt)) fence) first) virt (m.platform.clock.time + 1) has
concluded_end L P A m first device hlv (Accesses wanted) has = hlv_end L P m first wanted (hlv_outcome m.device (ram_memory m.ram) (with_first m first).platform.virt wanted) (hlv wanted has)

-- by what is known of how the next instruction ends
pub try_end : (L : Completion → Type 0) (P : Virtual → Type 0) (A : DataAccess → Type 0) (m : Machine) (stages : Stages)
    → ((first : List FirstEntry) (wanted : DataAccess) → A wanted → HlvHas L (hlv_outcome m.device (ram_memory m.ram) (with_first m first).platform.virt wanted))
    → OutcomeHas L P A (outcome_under stages m)
    → TryEnd L P m (try_under stages m) (fence_under stages m)
unfolding try_under fence_under
try_end L P A m stages hlv has = by (due m.platform.virt.csrs m.platform.virt.mode)
  where
    by : (code : Option ℕ) → TryEnd L P m (tried_with stages m code) (fence_with stages m code)
    by (Some code) = Takes m.platform.virt.first (interrupt_of code)
    by None = let first = (with_found stages m).platform.virt.first in concluded_end L P A m first stages.device (hlv first) (outcome_under stages m) has
