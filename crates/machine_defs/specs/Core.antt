-- One instruction, for a lone machine and for the hart alike: a function of the registers, and of what its
-- accesses go through. Each part of it takes the result of the part before.
use Rattle.std.specs.Prelude.{ℕ, ◌%◌, ◌^◌, Bool, true, false, ◌&&◌, Option, Some, None, ◌==◌, if◌then◌else◌}
use Rattle.arch_defs.specs.declared.modes.Access.{Access}
use Rattle.arch_defs.specs.declared.modes.Access.TheVariants as access
use Rattle.arch_defs.specs.declared.modes.Access.TheVariants.{Fetch, Implicit}
use Rattle.arch_defs.specs.declared.modes.Mode.{Mode}
use Rattle.arch_defs.specs.declared.modes.Mode.TheVariants.{HS, U, VS, VU}
use Rattle.arch_defs.specs.declared.modes.Trap.{Trap}
use Rattle.arch_defs.specs.declared.modes.TheConstants.{ILLEGAL_INSTRUCTION, ECALL_FROM_USER, ECALL_FROM_VS}
use Rattle.arch_defs.specs.declared.registers.Csrs.{Csrs}
use Rattle.arch_defs.specs.declared.registers.Virtual.{Virtual}
use Rattle.arch_defs.specs.declared.walks.Found.{Found}
use Rattle.arch_defs.specs.declared.walks.Found.TheVariants.{Passes, PageFaults, MissesEntry}
use Rattle.arch_defs.specs.declared.walks.MissingPlace.{MissingPlace}
use Rattle.arch_defs.specs.declared.widths.Width.{Width}
use Rattle.arch_defs.specs.declared.widths.Width.TheVariants.{Word}
use Rattle.arch_defs.specs.Memory.{Mmu, Reading, SecondStage, Stored}
use Rattle.arch_defs.specs.Registers.{advanced, passed, sets}
use Rattle.arch_defs.specs.Translation.{first_stage}
use Rattle.arch_defs.specs.Traps.{exception, faults_of}
use Rattle.arch_defs.specs.Widths.{bytes_in, extended}
use Rattle.op_defs.specs.declared.ops.DataAccess.{DataAccess}
use Rattle.op_defs.specs.declared.ops.Op.{Op}
use Rattle.op_defs.specs.declared.ops.Effect.{Effect}
use Rattle.op_defs.specs.declared.ops.Effect.TheVariants.{Sets, Raises, Data, Calls, Privileged}
use Rattle.op_defs.specs.declared.ops.Purpose.{Purpose}
use Rattle.op_defs.specs.declared.ops.Purpose.TheVariants.{Load, LoadCode, Store, Reserve, StoreReserved, Modify}
use Rattle.op_defs.specs.Arithmetic.{amo}
use Rattle.op_defs.specs.Meaning.{meaning}
use Rattle.op_defs.specs.Table.{op_of, is_system}
use Rattle.machine_defs.specs.declared.events.Event.{Event}
use Rattle.machine_defs.specs.declared.events.Event.TheVariants.{Plain, System}
use Rattle.machine_defs.specs.Outcomes.{Outcome, Done, Trapped, Missed, Called}
use Rattle.machine_defs.specs.Privileges.{privileged}

-- why an access is not made: it is an exception, or the second stage has no place for it
pub data Failure : Type 0 where
  Faults : Trap → Failure
  Misses : MissingPlace → Failure

-- where in memory an access is made, or why it is not
pub data Located : Type 0 where
  At : ℕ → Located
  Fails : Failure → Located

-- by the second stage, for a guest physical address
abbrev pub located_at : Mode → ℕ → Access → ℕ → Option ℕ → Located
located_at mode va access address (Some place) = At place
located_at mode va access address None =
    Fails (Misses (record { address = address; kind = access; access = access; va = va; mode = mode }))

-- by what the first stage made of the virtual address; a fault of an implicit access is one of the access
-- that it serves
abbrev pub located_by : SecondStage → Mode → ℕ → Access → Found → Located
located_by second mode va access (Passes address) = located_at mode va access address (second address access)
located_by second mode va access PageFaults = Fails (Faults (exception mode (faults_of access).page va))
located_by second mode va access (MissesEntry place) =
    Fails (Misses (record { address = place; kind = Implicit; access = access; va = va; mode = mode }))

-- by what is known of the virtual address, and else by the first stage
abbrev pub found_with : Option ℕ → Found → Found
found_with (Some address) found = Passes address
found_with None found = found

-- by both stages, as a mode
abbrev pub located : Mmu → Csrs → Mode → ℕ → Access → Located
located through csrs mode va access =
    located_by through.second mode va access
    (found_with (through.known va access) (first_stage through.second through.reading csrs mode va access))

-- an access of this width as a mode. One at an address that is not a multiple of the width always traps,
-- before translation (own)
abbrev pub accessed : Mmu → Csrs → Mode → ℕ → Width → Access → Located
accessed through csrs mode va width access =
    if va % bytes_in width == 0 then located through csrs mode va access
    else Fails (Faults (exception mode (faults_of access).misaligned va))

-- how an instruction goes on at the place of its access, which is one to data or is none; where there is no
-- place, it ends there
abbrev pub at_place : Option DataAccess → Located → (ℕ → Outcome) → Outcome
at_place wanted (At place) rest = rest place
at_place wanted (Fails (Faults trap)) rest = Trapped trap
at_place wanted (Fails (Misses missing)) rest = Missed missing wanted

-- what access to data an instruction makes for this purpose. LR is a load; SC, whatever is reserved, and an
-- atomic memory operation are stores (Unprivileged ISA 20191213, 8.2 and 8.4). HLVX needs X in place of R in
-- both stages (Privileged Architecture 20211203, 8.3.1)
abbrev pub kind_of : Purpose → Access
kind_of (Load signed rd) = access.Load
kind_of (LoadCode rd) = access.ExecLoad
kind_of (Store value) = access.Store
kind_of (Reserve rd) = access.Load
kind_of (StoreReserved value rd) = access.Store
kind_of (Modify op operand rd) = access.Store

-- where in memory an access to data is made, as a mode
abbrev pub data_place : Mmu → Csrs → Mode → DataAccess → Located
data_place through csrs mode wanted =
    accessed through csrs mode wanted.address wanted.width (kind_of wanted.purpose)

-- what an instruction leaves that completes: the state after it, and what it stores
pub record Completion : Type 0 where
  pub state : Virtual
  pub stored : Option Stored

abbrev pub completion_of : Virtual → Option Stored → Completion
completion_of state stored = record { state = state; stored = stored }

-- a number is stored in the bytes of a width
abbrev pub storing : ℕ → Width → ℕ → Option Stored
storing place width value = Some (record { place = place; width = bytes_in width; value = value })

-- what is reserved after an instruction
abbrev pub reserving : Virtual → Option (ℕ × ℕ) → Virtual
reserving state place = record state { reservation = place }

-- whether this place is reserved for this width: SC succeeds nowhere else (own)
abbrev pub is_reserved : Option (ℕ × ℕ) → ℕ → Width → Bool
is_reserved (Some (place, bytes)) at width = place == at && bytes == bytes_in width
is_reserved None at width = false

-- SC stores and gives 0 where the place is reserved, else it gives 1; it ends the reservation, and nothing
-- else does (own)
abbrev pub stored_if : Bool → Virtual → Width → ℕ → ℕ → ℕ → Completion
stored_if true state width value rd place =
    completion_of (reserving (sets state rd 0) None) (storing place width value)
stored_if false state width value rd place = completion_of (reserving (sets state rd 1) None) None

-- what an instruction leaves whose access to data, of this width and purpose, is made at this place. LR
-- reserves its physical address and width (Unprivileged ISA 20191213, 8.2)
abbrev pub completed : Reading → Virtual → Width → Purpose → ℕ → Completion
completed reading state width (Load signed rd) place =
    completion_of (sets state rd (extended width signed (reading place (bytes_in width)))) None
completed reading state width (LoadCode rd) place =
    completion_of (sets state rd (extended width false (reading place (bytes_in width)))) None
completed reading state width (Store value) place = completion_of (passed state) (storing place width value)
completed reading state width (Reserve rd) place =
    let held = extended width true (reading place (bytes_in width)) in
    completion_of (reserving (sets state rd held) (Some (place, bytes_in width))) None
completed reading state width (StoreReserved value rd) place =
    stored_if (is_reserved state.reservation place width) state width value rd place
completed reading state width (Modify op operand rd) place =
    let held = reading place (bytes_in width) in
    completion_of (sets state rd (extended width true held)) (storing place width (amo op width held operand))

-- the end of an instruction that completes, where the step is this event
abbrev pub done : Event → Completion → Outcome
done event completion = Done completion.state completion.stored event

-- an access to data as the instruction's own mode, and how the instruction ends with it
abbrev pub accessed_data : Mmu → Virtual → Event → DataAccess → Outcome
accessed_data through state event wanted =
    at_place (Some wanted) (data_place through state.csrs state.mode wanted)
    (λ place. done event (completed through.reading state wanted.width wanted.purpose place))

-- a call of the environment, by mode (Privileged Architecture 20211203, 3.3.1 and 8.6)
abbrev pub called_from : Mode → Outcome
called_from HS = Called
called_from U = Trapped (exception U ECALL_FROM_USER 0)
called_from VS = Trapped (exception VS ECALL_FROM_VS 0)
called_from VU = Trapped (exception VU ECALL_FROM_USER 0)

-- what a step that made the instruction of this word at this pc was
abbrev pub event_of : ℕ → ℕ → Event
event_of pc word = if is_system word then System else Plain pc word

-- how the instruction of this word ends, by what it asks for
abbrev pub executed : Mmu → Virtual → ℕ → Effect → Outcome
executed through state word (Sets rd value next) =
    Done (record state { regs = advanced state.regs rd value next }) None (event_of state.regs.pc word)
executed through state word (Raises cause tval) = Trapped (exception state.mode cause tval)
executed through state word (Data wanted) =
    accessed_data through state (event_of state.regs.pc word) wanted
executed through state word Calls = called_from state.mode
executed through state word (Privileged effect) = privileged state word effect

-- the instruction that was decoded from a word; a word that is none is illegal
abbrev pub decoded : Mmu → Virtual → ℕ → Option Op → Outcome
decoded through state word (Some op) = executed through state word (meaning op state.regs)
decoded through state word None = Trapped (exception state.mode ILLEGAL_INSTRUCTION word)

-- the instruction of a word
abbrev pub instruction : Mmu → Virtual → ℕ → Outcome
instruction through state word = decoded through state word (op_of word)

-- where in memory the word at pc is
abbrev pub fetch_place : Mmu → Virtual → Located
fetch_place through state = accessed through state.csrs state.mode state.regs.pc Word Fetch

-- the word of 32 bits at a physical address
abbrev pub word_at : Reading → ℕ → ℕ
word_at reading place = reading place 4 % 2 ^ 32

-- one instruction, in this order: fetch, decode, checks of privilege, alignment, translation, access. pc is a
-- multiple of 4 from the start on (`RunKeepsStorable` of `run_laws`): a jump to another target is an
-- exception at the jump, and sepc and handlers are multiples of 4
unfoldable pub core : Mmu → Virtual → Outcome
core through state =
    at_place None (fetch_place through state)
    (λ place. instruction through state (word_at through.reading place))
