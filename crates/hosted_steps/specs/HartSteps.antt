-- What one step of the hart is to the guest's lone machine.
use Rattle.std.specs.Prelude.{ℕ, ◌≡◌, ◌==◌, ◌||◌, Bool, true, false, not, Option, Some, None, if◌then◌else◌, List}
use Rattle.arch_defs.specs.declared.cached.Entry.{Entry}
use Rattle.arch_defs.specs.declared.first.FirstEntry.{FirstEntry}
use Rattle.arch_defs.specs.declared.hart_states.HartState.{HartState}
use Rattle.arch_defs.specs.declared.levels.TheConstants.{VS_SOFTWARE, VS_TIMER, VS_EXTERNAL}
use Rattle.arch_defs.specs.declared.modes.TheConstants.{VIRTUAL_INSTRUCTION}
use Rattle.arch_defs.specs.declared.registers.Virtual.{Virtual}
use Rattle.arch_defs.specs.declared.roots.GuestRoot.{GuestRoot}
use Rattle.arch_defs.specs.Frames.{Frames, Only, in_blocks, joined}
use Rattle.arch_defs.specs.declared.registers.Interrupts.{Interrupts}
use Rattle.arch_defs.specs.Interrupts.{due, vs_bit}
use Rattle.arch_defs.specs.Layouts.{Layout, NamesEachOnce}
use Rattle.arch_defs.specs.Ram.{ram_of}
use Rattle.arch_defs.specs.Traps.{exception, is_virtual}
use Rattle.arch_defs.specs.WalkedEntries.{folds}
use Rattle.op_defs.specs.declared.ops.CsrOp.{CsrOp}
use Rattle.op_defs.specs.declared.ops.Privileged.{Privileged}
use Rattle.op_defs.specs.declared.ops.Privileged.TheVariants.{Csr, Wfi}
use Rattle.machine_defs.specs.declared.events.Event.{Event}
use Rattle.machine_defs.specs.declared.events.Event.TheVariants as event
use Rattle.machine_defs.specs.Fills.{missing_entry}
use Rattle.machine_defs.specs.FirstLeaves.{tag_of}
use Rattle.instruction_laws.specs.HostPlaces.{in_ram, memory_place}
use Rattle.machine_defs.specs.Machine.{Machine, Tried, stepped_to, trapped}
use Rattle.machine_defs.specs.Privileges.{privileged}
use Rattle.instruction_laws.specs.Renaming.{ReservesWithin, renamed}
use Rattle.run_laws.specs.Reservations.{CachesInRam}
use Rattle.machine_defs.specs.Tries.{try}
use Rattle.fill_laws.specs.Keeping.{IsOrderly}
use Rattle.run_laws.specs.StorableStates.{IsStorable}
use Rattle.host_tables.specs.Walks.{IsHeld}
use Rattle.shadow_pool.specs.Slots.{Pooled, TidyPool, front_root, pool_frames, room_of, spaces_of}
use Rattle.rv64_hart.specs.Steps.{HartEnd, Goes, Exits, attempt_of, end_by, enters_vs, hart_step}
use Rattle.world_switch.specs.Hosting.{guest_state_after, hosted_level, loaded_in, root_at}
use Rattle.world_switch.specs.Laws.{KeepsHidden}
use Rattle.hosted_steps.specs.DevicePages.{CachesOwnDevice}
use Rattle.hosted_steps.specs.ExitCases.{IsLeft, exit_of, found_next}

-- whether an interrupt is one that the hart does not take for the guest, by the guest's V and hideleg: with
-- V = 0 one of VS, with V = 1 one that is not delegated, which goes to HS
abbrev pub is_hosts : Option ℕ → Bool → Interrupts → Bool
is_hosts None virtual hideleg = false
is_hosts (Some code) false hideleg = code == VS_SOFTWARE || code == VS_TIMER || code == VS_EXTERNAL
is_hosts (Some code) true hideleg = not (vs_bit hideleg code)

-- whether the interrupt that is due is one that the host must take
abbrev pub host_takes : Virtual → Bool
host_takes virt = is_hosts (due virt.csrs virt.mode) (is_virtual virt.mode) virt.csrs.hideleg

-- what the hart's step was to the guest: a trap into VS is one into that level
abbrev pub event_for : Bool → Event → Event
event_for virtual (event.Plain pc word) = event.Plain pc word
event_for virtual (event.Trap into interrupt) = event.Trap (hosted_level virtual) interrupt
event_for virtual event.System = event.System

-- the frame of the root of the table under which the hart runs for a guest: of the front space's folded
-- table while the guest folds, else of its host table
abbrev pub root_frame_for : Layout → Pooled → Virtual → ℕ
root_frame_for part pool virt = if folds virt then front_root pool.slots else part.first_root

unfoldable pub root_for : Layout → Pooled → Virtual → GuestRoot
root_for part pool virt = root_at part (root_frame_for part pool virt)

-- the frames that steps of a guest may change: of its blocks, and of its spaces' tables
abbrev pub changing : Layout → Pooled → Frames
changing part pool = joined (in_blocks part.blocks) (pool_frames pool)

-- the hart still stands for a guest with what it has run, but for what is saved of it
pub record KeepsHart (root : GuestRoot) (before hart : Virtual) : Type 0 where
  pub csrs : KeepsHidden root (is_virtual before.mode) before.csrs hart.csrs
  pub mode : is_virtual hart.mode ≡ true

-- the step of the machine that a step of the hart is
abbrev pub step_for : Machine → Virtual → Bool → List ℕ → Event → Tried
step_for m hart trapped memory event =
    let platform = record m.platform { virt = guest_state_after trapped hart m.platform.virt } in
    stepped_to (record m { ram = memory }) platform event

-- what the hart has stands for a guest: its state is this one, with its reservation's place in memory, and
-- the accesses are for whom the guest's are
pub record IsOf (part : Layout) (virt own : Virtual) (hart : HartState) : Type 0 where
  pub state : hart.virt ≡ renamed (memory_place part.blocks) own
  pub tag : hart.tag ≡ tag_of virt

-- a step that the hart has made in a part of machine memory is the machine's, which lacks nothing: what the
-- hart has stands for the machine after it
pub record IsMade (part : Layout) (root : GuestRoot) (m : Machine) (tried : Tried) (lacks : Option Entry)
    (memory : List ℕ) (hart : HartState) (changed : List ℕ) (event : Event) : Type 0 where
  pub own : Virtual
  pub stands : IsOf part m.platform.virt own hart
  pub step : tried
      ≡ step_for m own (enters_vs event) (ram_of part.blocks changed)
      (event_for (is_virtual m.platform.virt.mode) event)
  pub ready : lacks ≡ None
  pub keeps : KeepsHart root m.platform.virt own
  pub held : ReservesWithin (in_ram part.blocks) own.reservation
  pub only : Only (in_blocks part.blocks) memory changed

-- what a step of the hart under a root is to a try of the machine for which it stands, by the first-stage
-- translations that this finds, and to what the machine lacks
abbrev pub FollowsTry : Layout → GuestRoot → Machine → List FirstEntry → Tried → Option Entry
    → List ℕ → HartEnd → Type 0
FollowsTry part root m found tried lacks memory (Goes hart changed event) =
    IsMade part root m tried lacks memory hart changed event
FollowsTry part root m found tried lacks memory (Exits trap) =
    IsLeft m found tried lacks (exit_of m.platform.virt trap)

abbrev pub Follows : Layout → GuestRoot → Machine → List ℕ → HartEnd → Type 0
Follows part root m memory end =
    FollowsTry part root m (found_next m) (try m) (missing_entry m) memory end

-- a machine in a part of machine memory: the part names no frame twice, and memory holds it with its host
-- table; RAM is the bytes of its blocks; what is reserved, if anything, is a place of RAM; the spaces are
-- those of a pool of the same part, whose tables are tidy in memory, and cache frames of RAM, and that of the
-- device page only where the machine has it; while the machine folds, the space of hgatp is in front; and the
-- registers hold what they can store
pub record IsAt (part : Layout) (pool : Pooled) (m : Machine) (memory : List ℕ) : Type 0 where
  pub once : NamesEachOnce part
  pub held : IsHeld part memory
  pub ram : m.ram ≡ ram_of part.blocks memory
  pub reserved : ReservesWithin (in_ram part.blocks) m.platform.virt.reservation
  pub own : pool.part ≡ part
  pub tidy : TidyPool pool memory
  pub spaces : m.spaces ≡ spaces_of pool
  pub space_room : m.space_room ≡ room_of pool
  pub entry_room : m.entry_room ≡ pool.most
  pub caches : CachesInRam m
  pub devices : CachesOwnDevice m
  pub orderly : IsOrderly m
  pub storable : IsStorable m.platform.virt

-- a step of the hart that stands for a guest is a try of its lone machine, where no interrupt is due that the
-- host must take, and the machine is in the guest's part of memory
abbrev pub StepsFollow : Type 0
StepsFollow =
    (part : Layout) (pool : Pooled) (m : Machine) (memory : List ℕ)
    → host_takes m.platform.virt ≡ false → IsAt part pool m memory
    → Follows part (root_for part pool m.platform.virt) m memory
    (hart_step (loaded_in part (root_for part pool m.platform.virt) m.platform.virt) memory)

-- the hart, loaded for a guest, exits at an instruction that the mode decides on, with its word
abbrev pub ExitsAt : Layout → GuestRoot → Virtual → List ℕ → ℕ → Privileged → Type 0
ExitsAt part root virt memory word effect =
    let hart = loaded_in part root virt in
    end_by hart memory (attempt_of hart memory (privileged hart.virt word effect))
    ≡ Exits (exception hart.virt.mode VIRTUAL_INSTRUCTION word)

-- so it does at a WFI, and at a read of time, whatever the guest's mode and registers are
abbrev pub WaitsExit : Type 0
WaitsExit =
    (part : Layout) (root : GuestRoot) (virt : Virtual) (memory : List ℕ) (word : ℕ)
    → ExitsAt part root virt memory word Wfi

abbrev pub TimeExits : Type 0
TimeExits =
    (part : Layout) (root : GuestRoot) (virt : Virtual) (memory : List ℕ) (word : ℕ)
    (op : CsrOp) (operand rd : ℕ) → ExitsAt part root virt memory word (Csr op 0xC01 operand false rd)
