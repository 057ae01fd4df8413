-- Instructions, tries and runs leave registers that can be stored.
use Rattle.std.specs.Prelude.{◌==◌, ◌&&◌, not, Result, Ok, Err, nat_le, nat_lt}
use Rattle.std.proofs.Common.{cond, ◌≡◌, ℕ, ◌+◌, ◌/◌, ◌%◌, ◌^◌, ◌<◌, ◌∙◌, Bool, true, false, List, Option, Some, None, length, refl, ap, sym, arith}
use Rattle.std.proofs.lemmas.Bool.{eqb-true}
use Rattle.arch_defs.specs.declared.cached.Entry.{Entry}
use Rattle.arch_defs.specs.declared.cached.Fence.{Fence}
use Rattle.arch_defs.specs.declared.csr_names.CsrEnd.{CsrEnd}
use Rattle.arch_defs.specs.declared.first.FirstEntry.{FirstEntry}
use Rattle.arch_defs.specs.declared.modes.Access.{Access}
use Rattle.arch_defs.specs.declared.modes.Mode.{Mode}
use Rattle.arch_defs.specs.declared.modes.Mode.TheVariants.{HS, U, VS, VU}
use Rattle.arch_defs.specs.declared.registers.Csrs.{Csrs}
use Rattle.arch_defs.specs.declared.registers.Regs.{Regs}
use Rattle.arch_defs.specs.declared.registers.Virtual.{Virtual}
use Rattle.arch_defs.specs.declared.walks.Found.{Found}
use Rattle.arch_defs.specs.declared.walks.Found.TheVariants.{Passes, PageFaults, MissesEntry}
use Rattle.arch_defs.specs.declared.widths.Width.{Width}
use Rattle.arch_defs.specs.declared.widths.Width.TheVariants.{Byte, Half, Word, Double}
use Rattle.arch_defs.specs.CsrAccess.{read_csr, write_csr}
use Rattle.arch_defs.specs.Bits.{add64}
use Rattle.arch_defs.specs.CsrBits.{epc_bits, guest_root_of, hedeleg_bits, hgatp_bits, satp_bits, supervisor_root_of, tvec_bits}
use Rattle.arch_defs.specs.CachedEntries.{entry_at, is_device, leaf_of, place_by, second_by}
use Rattle.arch_defs.specs.Memory.{Memory, Mmu, Reading, SecondStage, bare, ram_memory, reading_of}
use Rattle.arch_defs.specs.Permits.{permits_second}
use Rattle.arch_defs.specs.Spaces.{front}
use Rattle.arch_defs.specs.Translation.{first_stage}
use Rattle.arch_defs.specs.Traps.{exception, faults_of}
use Rattle.arch_defs.specs.Walk.{leaf_address}
use Rattle.arch_defs.specs.WalkedEntries.{folds}
use Rattle.arch_defs.specs.Widths.{bytes_in}
use Rattle.op_defs.specs.declared.ops.CsrOp.{CsrOp}
use Rattle.op_defs.specs.declared.ops.DataAccess.{DataAccess}
use Rattle.op_defs.specs.declared.ops.Effect.{Effect}
use Rattle.op_defs.specs.declared.ops.Effect.TheVariants.{Sets, Raises, Data, Calls, Privileged as Decides}
use Rattle.op_defs.specs.declared.ops.Op.{Op}
use Rattle.op_defs.specs.declared.ops.Op.TheVariants as op
use Rattle.op_defs.specs.declared.ops.Privileged.{Privileged}
use Rattle.op_defs.specs.declared.ops.Privileged.TheVariants.{Csr, Sret, Wfi, SfenceVma, HfenceVvma, HfenceGvma, HlvAccess}
use Rattle.op_defs.specs.declared.ops.Purpose.{Purpose}
use Rattle.op_defs.specs.declared.ops.Purpose.TheVariants.{Load, LoadCode, Store, Reserve, StoreReserved, Modify}
use Rattle.op_defs.specs.Meaning.{address_at, branch, even, is_branch_taken, jump, meaning}
use Rattle.op_defs.specs.Table.{op_of}
use Rattle.machine_defs.specs.declared.events.Event.{Event}
use Rattle.machine_defs.specs.Core.{Completion, Fails, Faults, accessed, accessed_data, called_from, completed, core, data_place, decoded, done, event_of, executed, fetch_place, found_with, instruction, is_reserved, kind_of, located, located_at, located_by, stored_if, word_at}
use Rattle.machine_defs.specs.FirstLeaves.{tag_of}
use Rattle.machine_defs.specs.HlvAccesses.{hlv_outcome}
use Rattle.machine_defs.specs.Machine.{Machine, Platform, Tried, called, made_by, start, with_first, with_registers}
use Rattle.arch_defs.specs.Registers.{sets, next}
use Rattle.machine_defs.specs.Outcomes.{Outcome}
use Rattle.machine_defs.specs.Privileges.{combined, csr_accessed, csr_changed, csr_shown, decided, performed, privileged, refusal, value_or_zero}
use Rattle.machine_defs.specs.Runs.{left_by}
use Rattle.machine_defs.specs.Tries.{mmu_of, second_of, stages_of}
use Rattle.instruction_laws.specs.InstructionEnds.{HlvHas, OutcomeHas}
use Rattle.instruction_laws.specs.Renaming.{KeepsPage}
use Rattle.run_laws.specs.StorableStates.{FillStaysStorable, IsCodeAddress, IsStorable, ReservesAligned, RunKeepsStorable, StartIsStorable, TryKeepsStorable}
use Rattle.instruction_laws.proofs.Cached.{either}
use Rattle.instruction_laws.proofs.Completions.{LocatedHas, at_each, at_each_with, hlv_each}
use Rattle.instruction_laws.proofs.KeptByRuns.{IsKept, kept_by_runs}
use Rattle.run_laws.proofs.OpWidths.{HasWidth, HaveWidth, IsReservable, op_widths}
use Rattle.instruction_laws.proofs.Placed.{KeepsOffset, cached_keeps_page, first_keeps, leaf_keeps, with_known_keeps}
use Rattle.run_laws.proofs.StorableStates.{advanced_storable, called_storable, entered_storable, next_code, returned_storable, with_pending_lines_storable, with_regs}
use Rattle.run_laws.proofs.StoredForms.{WriteStored, write_stored}
use Rattle.instruction_laws.proofs.TryEnds.{Calls as Called, Fences, Halts, Makes, Passes as Waited, Serves, Takes, TryEnd, try_end}

-- a second stage keeps the offset in a page
KeepsOffsets : SecondStage → Type 0
KeepsOffsets second = (address place : ℕ) (kind : Access) → second address kind ≡ Some place → place % 4096 ≡ address % 4096

by_entries : (entries : List Entry) (mxr : Bool) → KeepsOffsets (second_by entries mxr)
unfolding KeepsOffsets second_by
by_entries entries mxr address place kind is = by (entry_at (address / 4096) entries) is
  where
    at : (e : Entry) (b : Bool) → cond b (Some (leaf_address (leaf_of e) address)) None ≡ Some place → place % 4096 ≡ address % 4096
    at e true is = let same : leaf_address (leaf_of e) address ≡ place = cc in ap (λ p. p % 4096) (sym same) ∙ leaf_keeps e.frame 0 address
    at e false is = absurd cc

    by : (there : Option Entry) → place_by mxr address kind there ≡ Some place → place % 4096 ≡ address % 4096
    by None is = absurd cc
    by (Some e) is = at e (permits_second mxr kind (leaf_of e) && not (is_device e)) is

by_ram : (memory : Memory) → KeepsOffsets (bare memory)
unfolding KeepsOffsets
by_ram memory address place kind is = by (nat_le memory.base address && nat_lt address (memory.base + length memory.bytes)) is
  where
    by : (b : Bool) → cond b (Some address) None ≡ Some place → place % 4096 ≡ address % 4096
    by true is = let e : address ≡ place = cc in ap (λ p. p % 4096) (sym e)
    by false is = absurd cc

own_keeps : (m : Machine) → KeepsPage (mmu_of m).known
own_keeps m = cached_keeps_page m.platform.virt.first (tag_of m.platform.virt) m.platform.virt

own_offsets : (m : Machine) → KeepsOffsets (second_of m)
own_offsets m = either KeepsOffsets (folds m.platform.virt) (second_by (front m.spaces) m.platform.virt.csrs.hs.status.mxr) (bare (ram_memory m.ram))
    (by_entries (front m.spaces) m.platform.virt.csrs.hs.status.mxr) (by_ram (ram_memory m.ram))

-- so an access is made at a multiple of its width
whole_at : (width : Width) (place address va : ℕ) → place % 4096 ≡ address % 4096 → address % 4096 ≡ va % 4096 → va % bytes_in width ≡ 0 → place % bytes_in width ≡ 0
whole_at Byte place address va second first whole = omega arith
whole_at Half place address va second first whole = omega arith
whole_at Word place address va second first whole = omega arith
whole_at Double place address va second first whole = omega arith

IsWhole : Width → ℕ → Type 0
IsWhole width place = place % bytes_in width ≡ 0

by_whole : (second : SecondStage) → KeepsOffsets second → (mode : Mode) (va : ℕ) (width : Width) (access : Access) (found : Found) → KeepsOffset va found → va % bytes_in width ≡ 0
    → LocatedHas (IsWhole width) (located_by second mode va access found)
unfolding KeepsOffsets IsWhole
by_whole second offsets mode va width access (Passes address) keeps whole = by (second address access) refl
  where
    by : (place : Option ℕ) → second address access ≡ place → LocatedHas (IsWhole width) (located_at mode va access address place)
    by (Some place) is = whole_at width place address va (offsets address place access is) keeps whole
    by None is = tt
by_whole second offsets mode va width access PageFaults keeps whole = tt
by_whole second offsets mode va width access (MissesEntry place) keeps whole = tt

accessed_whole : (through : Mmu) → KeepsPage through.known → KeepsOffsets through.second → (csrs : Csrs) (mode : Mode) (va : ℕ) (width : Width) (access : Access)
    → LocatedHas (IsWhole width) (accessed through csrs mode va width access)
accessed_whole through keeps offsets csrs mode va width access = by (va % bytes_in width == 0) (eqb-true (va % bytes_in width) 0)
  where
    by : (b : Bool) → (b ≡ true → va % bytes_in width ≡ 0)
        → LocatedHas (IsWhole width) (cond b (located through csrs mode va access) (Fails (Faults (exception mode (faults_of access).misaligned va))))
    by true whole = let found = first_stage through.second through.reading csrs mode va access in
        by_whole through.second offsets mode va width access (found_with (through.known va access) found)
        (with_known_keeps through.known keeps va access found (first_keeps through.second through.reading csrs mode va access)) (whole refl)
    by false whole = tt

-- what an access reserves, if its purpose is to
abbrev ReservesAt : Width → Purpose → ℕ → Type 0
ReservesAt width (Reserve rd) place = ReservesAligned (Some (place, bytes_in width))
ReservesAt width _ place = Unit {0}

abbrev ReservesWidth : Width → Purpose → Type 0
ReservesWidth width (Reserve rd) = IsReservable (bytes_in width)
ReservesWidth width _ = Unit {0}

abbrev ReservesNothing : Purpose → Type 0
ReservesNothing (Reserve rd) = ⊥
ReservesNothing _ = Unit {0}

own_reserves : (width : Width) (purpose : Purpose) (place : ℕ) → ReservesWidth width purpose → IsWhole width place → ReservesAt width purpose place
unfolding IsWhole
own_reserves width (Reserve rd) place is whole = (whole, is)
own_reserves width (Load signed rd) place is whole = tt
own_reserves width (LoadCode rd) place is whole = tt
own_reserves width (Store value) place is whole = tt
own_reserves width (StoreReserved value rd) place is whole = tt
own_reserves width (Modify o operand rd) place is whole = tt

hlv_reserves : (width : Width) (purpose : Purpose) (place : ℕ) → ReservesNothing purpose → ReservesAt width purpose place
hlv_reserves width (Reserve rd) place never = absurd never
hlv_reserves width (Load signed rd) place none = tt
hlv_reserves width (LoadCode rd) place none = tt
hlv_reserves width (Store value) place none = tt
hlv_reserves width (StoreReserved value rd) place none = tt
hlv_reserves width (Modify o operand rd) place none = tt

-- what an instruction leaves whose access is made
sets_storable : (s : Virtual) (rd value : ℕ) → IsStorable s → IsStorable (sets s rd value)
sets_storable s rd value is = with_regs s _ is (advanced_storable s.regs rd value (next s.regs) (is.x0, is.pc) (next_code s.regs.pc is.pc))

reserving_storable : (s : Virtual) (place : Option (ℕ × ℕ)) → IsStorable s → ReservesAligned place → IsStorable (record s { reservation = place })
reserving_storable s place is aligned = record { x0 = is.x0; pc = is.pc; csrs = is.csrs; reservation = aligned }

completed_storable : (reading : Reading) (s : Virtual) (width : Width) (purpose : Purpose) (place : ℕ) → IsStorable s → ReservesAt width purpose place
    → IsStorable (completed reading s width purpose place).state
completed_storable reading s width (Load signed rd) place is reserves = sets_storable s rd _ is
completed_storable reading s width (LoadCode rd) place is reserves = sets_storable s rd _ is
completed_storable reading s width (Store value) place is reserves = sets_storable s 0 0 is
completed_storable reading s width (Reserve rd) place is reserves = reserving_storable _ (Some (place, bytes_in width)) (sets_storable s rd _ is) reserves
completed_storable reading s width (StoreReserved value rd) place is reserves = by (is_reserved s.reservation place width)
  where
    by : (reserved : Bool) → IsStorable (stored_if reserved s width value rd place).state
    by true = reserving_storable _ None (sets_storable s rd 0 is) tt
    by false = reserving_storable _ None (sets_storable s rd 1 is) tt
completed_storable reading s width (Modify o operand rd) place is reserves = sets_storable s rd _ is

-- what an instruction asks for: pc goes on at an address that it can have, and LR has a width of 4 or 8 bytes
abbrev IsSound : Effect → Type 0
IsSound (Sets rd value next) = IsCodeAddress next
IsSound (Data wanted) = ReservesWidth wanted.width wanted.purpose
IsSound (Decides (HlvAccess wanted)) = ReservesNothing wanted.purpose
IsSound _ = Unit {0}

jump_sound : (rd next target : ℕ) → target < 2 ^ 64 → IsSound (jump rd next target)
jump_sound rd next target fits = by (target % 4 == 0) (eqb-true (target % 4) 0)
  where
    by : (b : Bool) → (b ≡ true → target % 4 ≡ 0) → IsSound (cond b (Sets rd next target) (Raises 0 target))
    by true whole = (whole refl, fits)
    by false whole = tt

branch_sound : (taken : Bool) (next target : ℕ) → IsCodeAddress next → target < 2 ^ 64 → IsSound (branch taken next target)
branch_sound true next target on fits = jump_sound 0 0 target fits
branch_sound false next target on fits = on

sum_fits : (a b : ℕ) → add64 a b < 2 ^ 64
sum_fits a b = omega arith

even_fits : (a b : ℕ) → even (add64 a b) < 2 ^ 64
even_fits a b = omega arith

meaning_sound : (o : Op) (regs : Regs) → HasWidth o → IsCodeAddress regs.pc → IsSound (meaning o regs)
unfolding meaning
meaning_sound (op.Lui rd immediate) regs width code = next_code regs.pc code
meaning_sound (op.Auipc rd immediate) regs width code = next_code regs.pc code
meaning_sound (op.Jal rd offset) regs width code = jump_sound rd (next regs) (add64 regs.pc offset) (sum_fits regs.pc offset)
meaning_sound (op.Jalr rd rs1 offset) regs width code = jump_sound rd (next regs) (even (address_at regs rs1 offset)) (even_fits _ offset)
meaning_sound (op.Branch test rs1 rs2 offset) regs width code = branch_sound (is_branch_taken test _ _) (next regs) (add64 regs.pc offset) (next_code regs.pc code) (sum_fits regs.pc offset)
meaning_sound (op.Load w signed rd rs1 offset) regs width code = tt
meaning_sound (op.Store w rs1 rs2 offset) regs width code = tt
meaning_sound (op.AluImmediate o rd rs1 immediate) regs width code = next_code regs.pc code
meaning_sound (op.Alu o rd rs1 rs2) regs width code = next_code regs.pc code
meaning_sound (op.WordImmediate o rd rs1 immediate) regs width code = next_code regs.pc code
meaning_sound (op.Word o rd rs1 rs2) regs width code = next_code regs.pc code
meaning_sound op.Fence regs width code = next_code regs.pc code
meaning_sound op.FenceI regs width code = next_code regs.pc code
meaning_sound (op.LoadReserved w rd rs1) regs width code = width
meaning_sound (op.StoreConditional w rd rs1 rs2) regs width code = tt
meaning_sound (op.Amo o w rd rs1 rs2) regs width code = tt
meaning_sound op.Ecall regs width code = tt
meaning_sound op.Ebreak regs width code = tt
meaning_sound op.Sret regs width code = tt
meaning_sound op.Wfi regs width code = tt
meaning_sound (op.Csr o operand rd number) regs width code = tt
meaning_sound (op.SfenceVma rs1 rs2) regs width code = tt
meaning_sound (op.HfenceVvma rs1 rs2) regs width code = tt
meaning_sound (op.HfenceGvma rs1 rs2) regs width code = tt
meaning_sound (op.GuestLoad w signed rd rs1) regs width code = tt
meaning_sound (op.GuestFetch w rd rs1) regs width code = tt
meaning_sound (op.GuestStore w rs1 rs2) regs width code = tt

-- an outcome leaves such a state
abbrev pub LeavesStorable : Completion → Type 0
LeavesStorable completion = IsStorable completion.state

abbrev pub IsFine : Outcome → Type 0
IsFine o = OutcomeHas LeavesStorable IsStorable (λ wanted. ReservesNothing wanted.purpose) o

shown_fine : (s : Virtual) → IsStorable s → (word rd : ℕ) (value : Result ℕ CsrEnd) → IsFine (csr_shown s word rd value)
shown_fine s is word rd (Ok value) = sets_storable s rd value is
shown_fine s is word rd (Err end) = tt

changed_fine : (s : Virtual) → IsStorable s → (word rd value : ℕ) (csrs : Result Csrs CsrEnd) → WriteStored csrs → IsFine (csr_changed s word rd value csrs)
changed_fine s is word rd value (Ok csrs) stored =
    sets_storable (record s { csrs = csrs }) rd value (record { x0 = is.x0; pc = is.pc; csrs = stored; reservation = is.reservation })
changed_fine s is word rd value (Err end) stored = tt

csr_fine : (s : Virtual) → IsStorable s → (word : ℕ) (o : CsrOp) (number operand : ℕ) (writes : Bool) (rd : ℕ) → IsFine (csr_accessed s word o number operand writes rd)
csr_fine s is word o number operand true rd = let before = value_or_zero (read_csr s.csrs s.mode number) in
    changed_fine s is word rd before (write_csr s.csrs s.mode number (combined o before operand)) (write_stored s.csrs s.mode number (combined o before operand) is.csrs)
csr_fine s is word o number operand false rd = shown_fine s is word rd (read_csr s.csrs s.mode number)

performed_fine : (s : Virtual) → IsStorable s → (word : ℕ) (p : Privileged) → IsSound (Decides p) → IsFine (performed s word p)
performed_fine s is word (Csr o number operand writes rd) sound = csr_fine s is word o number operand writes rd
performed_fine s is word Sret sound = returned_storable s is
performed_fine s is word Wfi sound = sets_storable s 0 0 is
performed_fine s is word (SfenceVma fence) sound = sets_storable s 0 0 is
performed_fine s is word (HfenceVvma fence) sound = sets_storable s 0 0 is
performed_fine s is word (HfenceGvma fence) sound = sets_storable s 0 0 is
performed_fine s is word (HlvAccess wanted) sound = sound

privileged_fine : (s : Virtual) → IsStorable s → (word : ℕ) (p : Privileged) → IsSound (Decides p) → IsFine (privileged s word p)
unfolding privileged
privileged_fine s is word p sound = by (refusal p s.csrs.hstatus s.mode)
  where
    by : (refusal : Option CsrEnd) → IsFine (decided s word p refusal)
    by (Some end) = tt
    by None = performed_fine s is word p sound

called_fine : (mode : Mode) → IsFine (called_from mode)
called_fine HS = tt
called_fine U = tt
called_fine VS = tt
called_fine VU = tt

accessed_fine : (through : Mmu) → KeepsPage through.known → KeepsOffsets through.second → (s : Virtual) → IsStorable s → (event : Event) (wanted : DataAccess)
    → ReservesWidth wanted.width wanted.purpose → IsFine (accessed_data through s event wanted)
accessed_fine through keeps offsets s is event wanted width =
    at_each_with IsFine (IsWhole wanted.width) (Some wanted) (λ place. done event (completed through.reading s wanted.width wanted.purpose place)) (λ trap. tt) (λ missing. tt) goes
    (data_place through s.csrs s.mode wanted) (accessed_whole through keeps offsets s.csrs s.mode wanted.address wanted.width (kind_of wanted.purpose))
  where
    goes : (place : ℕ) → IsWhole wanted.width place → IsFine (done event (completed through.reading s wanted.width wanted.purpose place))
    goes place whole = completed_storable through.reading s wanted.width wanted.purpose place is (own_reserves wanted.width wanted.purpose place width whole)

executed_fine : (through : Mmu) → KeepsPage through.known → KeepsOffsets through.second → (s : Virtual) → IsStorable s → (word : ℕ) (effect : Effect) → IsSound effect
    → IsFine (executed through s word effect)
executed_fine through keeps offsets s is word (Sets rd value next) sound = with_regs s _ is (advanced_storable s.regs rd value next (is.x0, is.pc) sound)
executed_fine through keeps offsets s is word (Raises cause tval) sound = tt
executed_fine through keeps offsets s is word (Data wanted) sound = accessed_fine through keeps offsets s is (event_of s.regs.pc word) wanted sound
executed_fine through keeps offsets s is word Calls sound = called_fine s.mode
executed_fine through keeps offsets s is word (Decides p) sound = privileged_fine s is word p sound

decoded_fine : (through : Mmu) → KeepsPage through.known → KeepsOffsets through.second → (s : Virtual) → IsStorable s → (word : ℕ) (o : Option Op) → HaveWidth o
    → IsFine (decoded through s word o)
decoded_fine through keeps offsets s is word (Some o) width = executed_fine through keeps offsets s is word (meaning o s.regs) (meaning_sound o s.regs width is.pc)
decoded_fine through keeps offsets s is word None width = tt

pub op_fine : (m : Machine) (word : ℕ) (o : Op) → HasWidth o → IsStorable m.platform.virt → IsFine (decoded (mmu_of m) m.platform.virt word (Some o))
op_fine m word o width is = decoded_fine (mmu_of m) (own_keeps m) (own_offsets m) m.platform.virt is word (Some o) width

core_fine : (through : Mmu) → KeepsPage through.known → KeepsOffsets through.second → (s : Virtual) → IsStorable s → IsFine (core through s)
unfolding core
core_fine through keeps offsets s is =
    at_each IsFine None (λ place. instruction through s (word_at through.reading place)) (λ trap. tt) (λ missing. tt) goes (fetch_place through s)
  where
    goes : (place : ℕ) → IsFine (instruction through s (word_at through.reading place))
    goes place = decoded_fine through keeps offsets s is (word_at through.reading place) (op_of (word_at through.reading place)) (op_widths (word_at through.reading place))

hlv_fine : (device : Bool) (memory : Memory) (s : Virtual) → IsStorable s → (wanted : DataAccess) → ReservesNothing wanted.purpose
    → HlvHas LeavesStorable (hlv_outcome device memory s wanted)
hlv_fine device memory s is wanted none = hlv_each LeavesStorable device memory s wanted
    (λ place. completed_storable (reading_of memory) s wanted.width wanted.purpose place is (hlv_reserves wanted.width wanted.purpose place none))

-- a try
made_storable : (p : Platform) (moment : ℕ) → IsStorable p.virt → IsStorable (made_by p moment).virt
made_storable p moment is = with_pending_lines_storable (record p { clock = record p.clock { time = moment }; steps = p.steps + 1 }) is

first_storable : (first : List FirstEntry) (s : Virtual) → IsStorable s → IsStorable (record s { first = first })
first_storable first s is = record { x0 = is.x0; pc = is.pc; csrs = is.csrs; reservation = is.reservation }

left_storable : (m : Machine) (first : List FirstEntry) (virt : Virtual) (moment : ℕ) → IsStorable virt → IsStorable (made_by (with_registers (with_first m first).platform virt) moment).virt
left_storable m first virt moment is = made_storable (with_registers (with_first m first).platform virt) moment (first_storable first virt is)

ended_storable : (m : Machine) → IsStorable m.platform.virt → {t : Tried} {fence : Option Fence} → TryEnd LeavesStorable IsStorable m t fence → IsStorable (left_by m t).platform.virt
ended_storable m is (Takes first trap) =
    left_storable m first _ (m.platform.clock.time + 1) (entered_storable (with_first m first).platform.virt trap (first_storable first m.platform.virt is))
ended_storable m is (Makes first completion event has) = left_storable m first completion.state (m.platform.clock.time + 1) has
ended_storable m is (Serves first rd value console leaves) =
    made_storable (record (with_registers (with_first m first).platform (sets m.platform.virt rd value)) { console = console }) (m.platform.clock.time + 1)
    (first_storable first (sets m.platform.virt rd value) (sets_storable m.platform.virt rd value is))
ended_storable m is (Called first) = made_storable (called (with_first m first).platform) _ (called_storable (with_first m first).platform (first_storable first m.platform.virt is))
ended_storable m is (Waited first virt moment has) = left_storable m first virt moment has
ended_storable m is Halts = is
ended_storable m is (Fences first virt fence has) = left_storable m first virt (m.platform.clock.time + 1) has

pub try_stays_storable : TryKeepsStorable
try_stays_storable m is = ended_storable m is (try_end LeavesStorable IsStorable (λ wanted. ReservesNothing wanted.purpose) m (stages_of m)
    (λ first. hlv_fine m.device (ram_memory m.ram) (with_first m first).platform.virt (first_storable first m.platform.virt is))
    (core_fine (mmu_of m) (own_keeps m) (own_offsets m) m.platform.virt is))

-- so do a fill, which leaves the registers, and a run
pub fill_stays_storable : FillStaysStorable
fill_stays_storable m e is = is

abbrev OfMachine : Machine → Type 0
OfMachine m = IsStorable m.platform.virt

pub storable_kept : IsKept OfMachine
storable_kept = record { filled = λ m e is lacks. fill_stays_storable m e is; tried = try_stays_storable }

pub stays_storable : RunKeepsStorable
stays_storable = kept_by_runs OfMachine storable_kept

-- at its start all registers are zero but for pc
pub start_is_storable : StartIsStorable
unfolding start tvec_bits epc_bits hedeleg_bits supervisor_root_of satp_bits guest_root_of hgatp_bits
start_is_storable guest = record { x0 = refl; pc = (refl, omega arith); csrs = refl; reservation = tt }
