-- One instruction of the lone machine, and the same on the hart.
use Rattle.std.specs.Prelude.{◌==◌, option_and_then}
use Rattle.std.proofs.Common.{cond, ◌≡◌, ℕ, ◌%◌, ◌^◌, ◌<◌, Option, Some, None, Bool, true, false, refl, ap, arith}
use Rattle.arch_defs.specs.declared.modes.Access.{Access}
use Rattle.arch_defs.specs.declared.modes.Access.TheVariants.{Fetch, Load, Store, ExecLoad, Implicit}
use Rattle.arch_defs.specs.declared.modes.Mode.{Mode}
use Rattle.arch_defs.specs.declared.modes.Mode.TheVariants.{HS, U, VS, VU}
use Rattle.arch_defs.specs.declared.modes.TheConstants.{ECALL_FROM_USER, ILLEGAL_INSTRUCTION, INSTRUCTION_MISALIGNED}
use Rattle.arch_defs.specs.declared.roots.GuestRoot.{GuestRoot}
use Rattle.arch_defs.specs.declared.registers.Regs.{Regs}
use Rattle.arch_defs.specs.declared.registers.Virtual.{Virtual}
use Rattle.arch_defs.specs.declared.walks.Found.{Found}
use Rattle.arch_defs.specs.declared.walks.Found.TheVariants.{Passes, PageFaults, MissesEntry}
use Rattle.arch_defs.specs.declared.widths.Width.{Width}
use Rattle.arch_defs.specs.declared.widths.Width.TheVariants.{Word}
use Rattle.arch_defs.specs.Bits.{add64}
use Rattle.arch_defs.specs.Memory.{Mmu, Reading, SecondStage}
use Rattle.arch_defs.specs.SecondStage.{is_implicit}
use Rattle.arch_defs.specs.Registers.{advanced, read, passed, sets, next}
use Rattle.arch_defs.specs.Translation.{first_stage}
use Rattle.arch_defs.specs.Traps.{exception, is_virtual, faults_of}
use Rattle.arch_defs.specs.Widths.{bytes_in, extended}
use Rattle.op_defs.specs.declared.ops.Op.{Op}
use Rattle.op_defs.specs.declared.ops.Op.TheVariants as op
use Rattle.op_defs.specs.declared.ops.Effect.{Effect}
use Rattle.op_defs.specs.declared.ops.Effect.TheVariants.{Sets, Raises, Data, Calls, Privileged}
use Rattle.op_defs.specs.declared.ops.DataAccess.{DataAccess}
use Rattle.op_defs.specs.declared.ops.Purpose.{Purpose}
use Rattle.op_defs.specs.declared.ops.Purpose.TheVariants as purpose
use Rattle.op_defs.specs.Arithmetic.{amo}
use Rattle.op_defs.specs.Meaning.{branch, is_branch_taken, jump, meaning}
use Rattle.op_defs.specs.Table.{op_of}
use Rattle.instruction_laws.specs.MissedPlaces.{access_of, wanted_at}
use Rattle.machine_defs.specs.Core.{At, Fails, Faults, Located, Misses, accessed, accessed_data, called_from, completed, core, decoded, done, event_of, executed, fetch_place, found_with, instruction, is_reserved, kind_of, located, located_at, located_by, stored_if, storing, word_at}
use Rattle.world_switch.specs.Hosting.{hart_state_of, hosted_csrs, hosted_mode}
use Rattle.world_switch.proofs.Undone.{translates_alike}
use Rattle.hosted_steps.proofs.Decided.{privileged_in, privileged_of}
use Rattle.hosted_steps.proofs.Delegation.{IsOwn, own_0, own_12, own_13, own_15, own_2, own_3, own_4, own_6, own_8}
use Rattle.hosted_steps.proofs.Privileged.{privileged_stands}
use Rattle.hosted_steps.proofs.Stands.{Own, Call, Nested, SamePlace, Stands, at_stands, completes}

-- the faults of an access are the guest's own
page_fault_own : (access : Access) → IsOwn (faults_of access).page
page_fault_own Fetch = own_12
page_fault_own Load = own_13
page_fault_own Store = own_15
page_fault_own ExecLoad = own_13
page_fault_own Implicit = own_13

misaligned_own : (access : Access) → IsOwn (faults_of access).misaligned
misaligned_own Fetch = own_0
misaligned_own Load = own_4
misaligned_own Store = own_6
misaligned_own ExecLoad = own_4
misaligned_own Implicit = own_4

-- the accesses that the hart makes, each of which its guest-page fault tells
pub record IsPlain (access : Access) : Type 0 where
  pub told : access_of (faults_of access).guest_page ≡ access
  pub explicit : is_implicit access ≡ false

pub fetch_plain : IsPlain Fetch
fetch_plain = record { told = refl; explicit = refl }

load_plain : IsPlain Load
load_plain = record { told = refl; explicit = refl }

store_plain : IsPlain Store
store_plain = record { told = refl; explicit = refl }

-- where an access is made, link by link
by_second : (s : Virtual) (va : ℕ) (access : Access) (address : ℕ) (place : Option ℕ) → IsPlain access
    → SamePlace s (located_at s.mode va access address place) (located_at (hosted_mode s.mode) va access address place)
by_second s va access address (Some place) plain = refl
by_second s va access address None plain = (refl, refl, plain.told)

by_first : (s : Virtual) (second : SecondStage) (va : ℕ) (access : Access) (found : Found) → IsPlain access
    → SamePlace s (located_by second s.mode va access found) (located_by second (hosted_mode s.mode) va access found)
by_first s second va access (Passes address) plain = by_second s va access address (second address access) plain
by_first s second va access PageFaults plain = (_, refl, Own (faults_of access).page va refl refl (page_fault_own access))
by_first s second va access (MissesEntry place) plain = (refl, refl, plain.told)

located_alike : (root : GuestRoot) (s : Virtual) (through : Mmu) (va : ℕ) (access : Access) → IsPlain access
    → SamePlace s (located through s.csrs s.mode va access) (located through (hosted_csrs root (is_virtual s.mode) s.csrs) (hosted_mode s.mode) va access)
located_alike root s through va access plain =
    rw (translates_alike root through.second through.reading s.csrs s.mode va access)
    (by_first s through.second va access (found_with (through.known va access) (first_stage through.second through.reading s.csrs s.mode va access)) plain)

pub access_alike : (root : GuestRoot) (s : Virtual) (through : Mmu) (va : ℕ) (width : Width) (access : Access) → IsPlain access
    → SamePlace s (accessed through s.csrs s.mode va width access) (accessed through (hart_state_of root s).csrs (hosted_mode s.mode) va width access)
access_alike root s through va width access plain =
    elim (va % bytes_in width == 0) as (λ b.
    SamePlace s (cond b (located through s.csrs s.mode va access) (Fails (Faults (exception s.mode (faults_of access).misaligned va))))
    (cond b (located through (hosted_csrs root (is_virtual s.mode) s.csrs) (hosted_mode s.mode) va access) (Fails (Faults (exception (hosted_mode s.mode) (faults_of access).misaligned va)))))
    [ true ↦ located_alike root s through va access plain | false ↦ (_, refl, Own (faults_of access).misaligned va refl refl (misaligned_own access)) ]

-- an instruction whose access to data is made at this place
stored_if_stands : (root : GuestRoot) (s : Virtual) (pc word : ℕ) (held : Bool) (width : Width) (value rd place : ℕ)
    → Stands root s (done (event_of pc word) (stored_if held s width value rd place)) (done (event_of pc word) (stored_if held (hart_state_of root s) width value rd place))
stored_if_stands root s pc word true width value rd place = completes root s pc word (sets s rd 0).regs None (storing place width value)
stored_if_stands root s pc word false width value rd place = completes root s pc word (sets s rd 1).regs None None

completed_stands : (root : GuestRoot) (reading : Reading) (s : Virtual) (pc word : ℕ) (width : Width) (purpose : Purpose) (place : ℕ)
    → Stands root s (done (event_of pc word) (completed reading s width purpose place)) (done (event_of pc word) (completed reading (hart_state_of root s) width purpose place))
completed_stands root reading s pc word width (purpose.Load signed rd) place =
    completes root s pc word (sets s rd (extended width signed (reading place (bytes_in width)))).regs s.reservation None
completed_stands root reading s pc word width (purpose.LoadCode rd) place =
    completes root s pc word (sets s rd (extended width false (reading place (bytes_in width)))).regs s.reservation None
completed_stands root reading s pc word width (purpose.Store value) place =
    completes root s pc word (passed s).regs s.reservation (storing place width value)
completed_stands root reading s pc word width (purpose.Reserve rd) place =
    completes root s pc word (sets s rd (extended width true (reading place (bytes_in width)))).regs (Some (place, bytes_in width)) None
completed_stands root reading s pc word width (purpose.StoreReserved value rd) place =
    stored_if_stands root s pc word (is_reserved s.reservation place width) width value rd place
completed_stands root reading s pc word width (purpose.Modify o operand rd) place =
    let before = reading place (bytes_in width) in
    completes root s pc word (sets s rd (extended width true before)).regs s.reservation (storing place width (amo o width before operand))

data_stands : (root : GuestRoot) (through : Mmu) (s : Virtual) (pc word : ℕ) (wanted : DataAccess) → IsPlain (kind_of wanted.purpose)
    → Stands root s (accessed_data through s (event_of pc word) wanted) (accessed_data through (hart_state_of root s) (event_of pc word) wanted)
data_stands root through s pc word wanted plain =
    at_stands root s (Some wanted) _ _ (λ place. completed_stands root through.reading s pc word wanted.width wanted.purpose place) _ _
    (access_alike root s through wanted.address wanted.width (kind_of wanted.purpose) plain)

-- a call of the environment
called_alike : (root : GuestRoot) (s : Virtual) (mode : Mode) → Stands root (record s { mode = mode }) (called_from mode) (called_from (hosted_mode mode))
called_alike root s HS = Call refl refl refl
called_alike root s U = Own ECALL_FROM_USER 0 refl refl own_8
called_alike root s VS = Nested refl refl refl
called_alike root s VU = Own ECALL_FROM_USER 0 refl refl own_8

-- an instruction raises the guest's own exceptions alone, and makes no access of its own as HLVX does
abbrev pub IsFine : Effect → Type 0
IsFine (Raises cause tval) = IsOwn cause
IsFine (Data wanted) = IsPlain (kind_of wanted.purpose)
IsFine _ = Unit {0}

jump_fine : (rd next target : ℕ) → IsFine (jump rd next target)
jump_fine rd next target =
    elim (target % 4 == 0) as (λ b. IsFine (cond b (Sets rd next target) (Raises INSTRUCTION_MISALIGNED target))) [ true ↦ tt | false ↦ own_0 ]

branch_fine : (taken : Bool) (next target : ℕ) → IsFine (branch taken next target)
branch_fine true next target = jump_fine 0 0 target
branch_fine false next target = tt

pub meaning_fine : (o : Op) (regs : Regs) → IsFine (meaning o regs)
unfolding meaning
meaning_fine (op.Lui rd immediate) regs = tt
meaning_fine (op.Auipc rd immediate) regs = tt
meaning_fine (op.Jal rd offset) regs = jump_fine rd _ _
meaning_fine (op.Jalr rd rs1 offset) regs = jump_fine rd _ _
meaning_fine (op.Branch test rs1 rs2 offset) regs = branch_fine (is_branch_taken test (read regs rs1) (read regs rs2)) (next regs) (add64 regs.pc offset)
meaning_fine (op.Load width signed rd rs1 offset) regs = load_plain
meaning_fine (op.Store width rs1 rs2 offset) regs = store_plain
meaning_fine (op.AluImmediate o rd rs1 immediate) regs = tt
meaning_fine (op.Alu o rd rs1 rs2) regs = tt
meaning_fine (op.WordImmediate o rd rs1 immediate) regs = tt
meaning_fine (op.Word o rd rs1 rs2) regs = tt
meaning_fine op.Fence regs = tt
meaning_fine op.FenceI regs = tt
meaning_fine (op.LoadReserved width rd rs1) regs = load_plain
meaning_fine (op.StoreConditional width rd rs1 rs2) regs = store_plain
meaning_fine (op.Amo o width rd rs1 rs2) regs = store_plain
meaning_fine op.Ecall regs = tt
meaning_fine op.Ebreak regs = own_3
meaning_fine op.Sret regs = tt
meaning_fine op.Wfi regs = tt
meaning_fine (op.Csr o source rd number) regs = tt
meaning_fine (op.SfenceVma rs1 rs2) regs = tt
meaning_fine (op.HfenceVvma rs1 rs2) regs = tt
meaning_fine (op.HfenceGvma rs1 rs2) regs = tt
meaning_fine (op.GuestLoad width signed rd rs1) regs = tt
meaning_fine (op.GuestFetch width rd rs1) regs = tt
meaning_fine (op.GuestStore width rs1 rs2) regs = tt

-- what an effect does, what a decoded word does, and what was fetched
executed_stands : (root : GuestRoot) (through : Mmu) (s : Virtual) (word : ℕ) (effect : Effect) → IsFine effect
    → word < 2 ^ 32 → privileged_in word s.regs ≡ privileged_of effect → Stands root s (executed through s word effect) (executed through (hart_state_of root s) word effect)
executed_stands root through s word (Sets rd value next) good small decided = completes root s s.regs.pc word (advanced s.regs rd value next) s.reservation None
executed_stands root through s word (Raises cause tval) good small decided = Own cause tval refl refl good
executed_stands root through s word (Data wanted) good small decided = data_stands root through s s.regs.pc word wanted good
executed_stands root through s word Calls good small decided = called_alike root s s.mode
executed_stands root through s word (Privileged p) good small decided = privileged_stands root s word p small decided

-- which instructions the mode decides on is read off the word
decided_by : (word : ℕ) (o : Op) (regs : Regs) → op_of word ≡ Some o → privileged_in word regs ≡ privileged_of (meaning o regs)
unfolding privileged_in
decided_by word o regs e = ap (option_and_then (λ p. privileged_of (meaning p regs))) e

decoded_stands : (root : GuestRoot) (through : Mmu) (s : Virtual) (word : ℕ) (o : Option Op) → word < 2 ^ 32 → op_of word ≡ o
    → Stands root s (decoded through s word o) (decoded through (hart_state_of root s) word o)
decoded_stands root through s word (Some o) small e =
    executed_stands root through s word (meaning o s.regs) (meaning_fine o s.regs) small (decided_by word o s.regs e)
decoded_stands root through s word None small e = Own ILLEGAL_INSTRUCTION word refl refl own_2

-- what is fetched is a word of 32 bits
is_word : (n : ℕ) → n % 2 ^ 32 < 2 ^ 32
is_word n = omega arith

instruction_stands : (root : GuestRoot) (through : Mmu) (s : Virtual) (place : ℕ)
    → Stands root s (instruction through s (word_at through.reading place)) (instruction through (hart_state_of root s) (word_at through.reading place))
instruction_stands root through s place =
    decoded_stands root through s (word_at through.reading place) (op_of (word_at through.reading place)) (is_word (through.reading place 4)) refl

-- one instruction of the lone machine, and the same on the hart
pub core_stands : (root : GuestRoot) (through : Mmu) (s : Virtual) → Stands root s (core through s) (core through (hart_state_of root s))
unfolding core
core_stands root through s =
    at_stands root s None _ _ (λ place. instruction_stands root through s place) _ _ (access_alike root s through s.regs.pc Word Fetch fetch_plain)

-- what it wants of data, by where its word is
pub wanted_alike : (root : GuestRoot) (through : Mmu) (s : Virtual)
    → wanted_at through.reading (hart_state_of root s) (fetch_place through (hart_state_of root s)) ≡ wanted_at through.reading s (fetch_place through s)
wanted_alike root through s = by (fetch_place through s) (fetch_place through (hart_state_of root s)) (access_alike root s through s.regs.pc Word Fetch fetch_plain)
  where
    by : (lone hart : Located) → SamePlace s lone hart → wanted_at through.reading (hart_state_of root s) hart ≡ wanted_at through.reading s lone
    by lone (At place) e = rw e refl
    by lone (Fails (Faults trap)) (own, e, traps) = rw e refl
    by lone (Fails (Misses missing)) (e, mode, told) = rw e refl
