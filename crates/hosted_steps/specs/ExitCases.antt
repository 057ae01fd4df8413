-- How the host reads the trap at which the hart leaves a step of the guest to it: four cases.
use Rattle.std.specs.Prelude.{ℕ, ◌≡◌, ◌^◌, ◌==◌, ◌||◌, nat_lt, Bool, true, false, List, Option, Some, None, option_and_then, if◌then◌else◌, ◌-◌}
use Rattle.arch_defs.specs.declared.cached.Entry.{Entry}
use Rattle.arch_defs.specs.declared.first.FirstEntry.{FirstEntry}
use Rattle.arch_defs.specs.declared.modes.Trap.{Trap}
use Rattle.arch_defs.specs.declared.modes.TheConstants.{INSTRUCTION_ACCESS_FAULT, INSTRUCTION_GUEST_PAGE_FAULT, LOAD_ACCESS_FAULT, LOAD_GUEST_PAGE_FAULT, STORE_ACCESS_FAULT, STORE_GUEST_PAGE_FAULT, VIRTUAL_INSTRUCTION}
use Rattle.arch_defs.specs.declared.registers.Virtual.{Virtual}
use Rattle.arch_defs.specs.declared.walks.MissingPlace.{MissingPlace}
use Rattle.arch_defs.specs.FirstEntries.{all_filled}
use Rattle.arch_defs.specs.Spaces.{front}
use Rattle.arch_defs.specs.Traps.{exception, is_virtual}
use Rattle.arch_defs.specs.Walk.{guest_bits}
use Rattle.arch_defs.specs.WalkedEntries.{folds}
use Rattle.op_defs.specs.declared.ops.DataAccess.{DataAccess}
use Rattle.op_defs.specs.declared.ops.Op.{Op}
use Rattle.op_defs.specs.Table.{op_of}
use Rattle.machine_defs.specs.declared.events.Event.TheVariants.{System}
use Rattle.machine_defs.specs.Core.{decoded, fetch_place}
use Rattle.machine_defs.specs.Fills.{missing_entry_at}
use Rattle.machine_defs.specs.Machine.{Machine, Tried, called, stepped_to, trapped, with_first}
use Rattle.machine_defs.specs.Outcomes.{Missed, Outcome}
use Rattle.machine_defs.specs.Tries.{apply_outcome, device_of, found_by_try, mmu_of, stages_of, unplaced}
use Rattle.instruction_laws.specs.MissedPlaces.{told_place, wanted_at}
use Rattle.rv64_asm.specs.Words.{encoded}
use Rattle.hcsr_emulation.specs.Ends.{is_decided}

-- a step that the hart has left to the host
pub data Exit : Type 0 where
  -- an instruction on which the mode decides
  Instruction : Op → Exit
  -- an access to which the second stage gives no place: by the front space of a guest that folds, else by RAM
  Missing : MissingPlace → Exit
  -- a call of the execution environment
  Call : Exit
  -- a trap that the guest takes itself, since it does not delegate it
  Own : Trap → Exit

-- an instruction, if the mode decides on it
abbrev pub if_decided : Op → Option Op
if_decided op = if is_decided op then Some op else None

-- the instruction that a word is, if the mode decides on it
unfoldable pub decided_in : ℕ → Option Op
decided_in word = option_and_then if_decided (op_of word)

-- the instruction whose word a virtual-instruction exception tells (8.6.1)
abbrev pub decided_at : ℕ → Option Op
decided_at tval = if nat_lt tval (2 ^ 32) then decided_in tval else None

abbrev pub is_guest_page_code : ℕ → Bool
is_guest_page_code code =
    code == INSTRUCTION_GUEST_PAGE_FAULT || code == LOAD_GUEST_PAGE_FAULT || code == STORE_GUEST_PAGE_FAULT

-- the lone machine's access fault for a guest-page fault of the host table
abbrev pub access_fault_for : ℕ → ℕ
access_fault_for code =
    if code == INSTRUCTION_GUEST_PAGE_FAULT then INSTRUCTION_ACCESS_FAULT
    else if code == LOAD_GUEST_PAGE_FAULT then LOAD_ACCESS_FAULT else STORE_ACCESS_FAULT

-- code 22: an instruction that the mode decides on. The hart takes it for no other word, so the line for one
-- is for completeness
abbrev pub instruction_exit : Trap → Option Op → Exit
instruction_exit trap (Some op) = Instruction op
instruction_exit trap None = Own trap

-- the fault of an access at a guest physical address of more bits than any table translates, by whether the
-- guest folds: no walk of its table is made, and the fault is the guest's own (8.5.1); or RAM has no such
-- address
abbrev pub far_exit : Virtual → Trap → Bool → Exit
far_exit virt trap true = Own trap
far_exit virt trap false = Own (exception virt.mode (access_fault_for trap.cause) trap.tval)

-- a guest-page fault: the front space of a guest that folds, or the host table of one that does not, has no
-- place for the access
abbrev pub missing_place_exit : Virtual → Trap → Bool → Exit
missing_place_exit virt trap folding =
    if nat_lt trap.tval2 (2 ^ (guest_bits - 2)) then Missing (told_place virt.mode trap)
    else far_exit virt trap folding

-- another trap, by the guest's V: the guest's HS calls the environment, or the guest does not delegate it
abbrev pub other_exit : Trap → Bool → Exit
other_exit trap false = Call
other_exit trap true = Own trap

-- how the hart has left a step, by its trap
unfoldable pub exit_of : Virtual → Trap → Exit
exit_of virt trap =
    if is_guest_page_code trap.cause then missing_place_exit virt trap (folds virt)
    else if trap.cause == VIRTUAL_INSTRUCTION then instruction_exit trap (decided_at trap.tval)
    else other_exit trap (is_virtual virt.mode)

-- the first-stage translations that a machine's next step finds, and the machine that has cached such
abbrev pub found_next : Machine → List FirstEntry
found_next m = found_by_try (stages_of m) m

abbrev pub having_found : List FirstEntry → Machine → Machine
having_found found m = with_first m (all_filled m.platform.virt.first found)

-- how the instruction of this op ends, with the op's own word, in the guest's own mode
abbrev pub decided_end : Machine → Op → Outcome
decided_end m op =
    decoded (mmu_of m) m.platform.virt (encoded op) (Some op)

-- and what that is to the machine, which has cached what it found
abbrev pub try_decided : List FirstEntry → Machine → Op → Tried
try_decided found m op = apply_outcome (device_of m) (having_found found m) (decided_end m op)

-- what its next instruction wants of data
abbrev pub data_wanted : Machine → Option DataAccess
data_wanted m = let through = mmu_of m in let virt = m.platform.virt in
    wanted_at through.reading virt (fetch_place through virt)

-- the machine's try at such a step, which finds these first-stage translations
abbrev pub try_at : List FirstEntry → Machine → Exit → Tried
try_at found m (Instruction op) = try_decided found m op
try_at found m (Missing missing) =
    unplaced (having_found found m) missing (data_wanted m) (device_of m missing.address missing.kind)
try_at found m Call = let left = having_found found m in stepped_to left (called left.platform) System
try_at found m (Own trap) = trapped (having_found found m) trap

-- the cached translation that a machine lacks whose access has no place: where it folds, what the walk of the
-- guest's own table gives
abbrev pub entry_for : Machine → MissingPlace → Option Entry
entry_for m missing = let virt = m.platform.virt in
    if folds virt
    then missing_entry_at m.device virt.csrs m.ram (front m.spaces) (Missed missing None) else None

-- and one at such a step, if any
abbrev pub entry_for_exit : Machine → Exit → Option Entry
entry_for_exit m (Missing missing) = entry_for m missing
entry_for_exit m (Instruction op) = None
entry_for_exit m Call = None
entry_for_exit m (Own trap) = None

-- a step that the hart has left to the host is so
pub record IsLeft (m : Machine) (found : List FirstEntry) (tried : Tried) (lacks : Option Entry)
    (left : Exit) : Type 0 where
  pub step : tried ≡ try_at found m left
  pub fills : lacks ≡ entry_for_exit m left
