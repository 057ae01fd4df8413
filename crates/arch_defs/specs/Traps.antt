-- Traps: where they go, what their entry and SRET change (Privileged Architecture 20211203, chapters 4 and
-- 8).
use Rattle.std.specs.Prelude.{ℕ, Bool, true, false, not, ◌+◌, ◌-◌, ◌*◌, ◌/◌, ◌%◌, ◌^◌, ◌==◌, ◌&&◌, nat_lt, if◌then◌else◌, [], ◌∷◌}
use Rattle.std.specs.List.{list_any}
use Rattle.arch_defs.specs.Bits.{add64, bit}
use Rattle.arch_defs.specs.declared.levels.Level.{Level}
use Rattle.arch_defs.specs.declared.levels.Level.TheVariants as level
use Rattle.arch_defs.specs.declared.modes.Access.{Access}
use Rattle.arch_defs.specs.declared.modes.Access.TheVariants.{Fetch, Load, Store, ExecLoad, Implicit}
use Rattle.arch_defs.specs.declared.modes.FaultCodes.{FaultCodes}
use Rattle.arch_defs.specs.declared.modes.Mode.{Mode}
use Rattle.arch_defs.specs.declared.modes.Mode.TheVariants.{HS, U, VS, VU}
use Rattle.arch_defs.specs.declared.modes.Trap.{Trap}
use Rattle.arch_defs.specs.declared.modes.TheConstants.{INSTRUCTION_MISALIGNED, LOAD_MISALIGNED, STORE_MISALIGNED, INSTRUCTION_ACCESS_FAULT, LOAD_ACCESS_FAULT, STORE_ACCESS_FAULT, INSTRUCTION_PAGE_FAULT, LOAD_PAGE_FAULT, STORE_PAGE_FAULT, INSTRUCTION_GUEST_PAGE_FAULT, LOAD_GUEST_PAGE_FAULT, STORE_GUEST_PAGE_FAULT}
use Rattle.arch_defs.specs.declared.registers.SupervisorCsrs.{SupervisorCsrs}
use Rattle.arch_defs.specs.declared.registers.Csrs.{Csrs}
use Rattle.arch_defs.specs.declared.registers.Regs.{Regs}
use Rattle.arch_defs.specs.declared.registers.Virtual.{Virtual}
use Rattle.arch_defs.specs.declared.walks.MissingPlace.{MissingPlace}
use Rattle.arch_defs.specs.Interrupts.{vs_bit}

-- V, the virtualization mode (8.1)
abbrev pub is_virtual : Mode → Bool
is_virtual HS = false
is_virtual U = false
is_virtual VS = true
is_virtual VU = true

-- whether the nominal privilege is S and not U (8.1)
abbrev pub is_supervisor : Mode → Bool
is_supervisor HS = true
is_supervisor U = false
is_supervisor VS = true
is_supervisor VU = false

-- the mode of a V and of a privilege (8.1)
abbrev pub mode_of : Bool → Bool → Mode
mode_of false true = HS
mode_of false false = U
mode_of true true = VS
mode_of true false = VU

-- whether hideleg or hedeleg has a code's bit (8.2.2)
abbrev pub is_delegated : Csrs → Bool → ℕ → Bool
is_delegated csrs interrupt code =
    if interrupt then vs_bit csrs.hideleg code else nat_lt code 64 && bit code csrs.hedeleg

-- where a trap goes: to VS with V = 1 where hideleg has the interrupt, hedeleg the exception; else to HS
-- (8.2.2, 8.6.2)
unfoldable pub target : Csrs → Mode → Trap → Level
target csrs mode trap =
    if is_virtual mode && is_delegated csrs trap.interrupt trap.cause then level.VS else level.HS

-- whether stval gets an address for this exception (4.1.9; own: these and no others)
abbrev pub is_address_code : ℕ → Bool
is_address_code code =
    list_any (λ c. c == code) (0 ∷ 1 ∷ 3 ∷ 4 ∷ 5 ∷ 6 ∷ 7 ∷ 12 ∷ 13 ∷ 15 ∷ 20 ∷ 21 ∷ 23 ∷ [])

-- whether an exception writes a guest virtual address to stval, by the mode as which the instruction or its
-- access is made: HLV, HLVX and HSV make theirs as VS or VU (8.2.1, GVA; own: with each code that gives stval
-- an address)
abbrev pub has_guest_address : Mode → ℕ → Bool
has_guest_address mode code = is_virtual mode && is_address_code code

-- an exception of an instruction or an access made as this mode, with no guest physical address
abbrev pub exception : Mode → ℕ → ℕ → Trap
exception mode cause tval = record {
  cause = cause;
  interrupt = false;
  tval = tval;
  tval2 = 0;
  gva = has_guest_address mode cause;
  implicit = false;
}

-- the faults of an access by its kind (4.1.8, 8.6.1; HLVX and LR fault as a load, SC and AMO as a store). An
-- implicit read serves another access, whose fault is taken, so the line for it is for completeness
abbrev pub fetch_faults : FaultCodes
fetch_faults = record {
  misaligned = INSTRUCTION_MISALIGNED;
  access = INSTRUCTION_ACCESS_FAULT;
  page = INSTRUCTION_PAGE_FAULT;
  guest_page = INSTRUCTION_GUEST_PAGE_FAULT;
}

abbrev pub load_faults : FaultCodes
load_faults = record {
  misaligned = LOAD_MISALIGNED;
  access = LOAD_ACCESS_FAULT;
  page = LOAD_PAGE_FAULT;
  guest_page = LOAD_GUEST_PAGE_FAULT;
}

abbrev pub store_faults : FaultCodes
store_faults = record {
  misaligned = STORE_MISALIGNED;
  access = STORE_ACCESS_FAULT;
  page = STORE_PAGE_FAULT;
  guest_page = STORE_GUEST_PAGE_FAULT;
}

abbrev pub faults_of : Access → FaultCodes
faults_of Fetch = fetch_faults
faults_of Load = load_faults
faults_of ExecLoad = load_faults
faults_of Implicit = load_faults
faults_of Store = store_faults

-- the access fault of an access that has no place, made as whom the access is
abbrev pub missing_place_fault : MissingPlace → Trap
missing_place_fault missing = exception missing.mode (faults_of missing.access).access missing.va

-- what scause or vscause gets: the code, and bit 63 for an interrupt (4.1.8)
abbrev pub cause_of : Bool → ℕ → ℕ
cause_of interrupt code = if interrupt then 2 ^ 63 + code % 2 ^ 63 else code

-- where a trap's handler is: at tvec's base, but an interrupt in mode 1 at 4 times its code beyond it (4.1.2,
-- 8.2.13)
abbrev pub handler_of : ℕ → Bool → ℕ → ℕ
handler_of tvec interrupt code =
    if interrupt && (tvec % 4 == 1) then add64 (tvec / 4 * 4) (4 * code) else tvec / 4 * 4

-- a level's own registers after a trap into it, from privilege S or U, at pc (4.1.1, 4.1.7 to 4.1.9; for VS
-- 8.2.11, 8.2.15 to 8.2.17)
abbrev pub entered_supervisor : SupervisorCsrs → Bool → ℕ → ℕ → ℕ → SupervisorCsrs
entered_supervisor registers supervisor pc cause tval = record registers {
  status = record registers.status { spp = supervisor; spie = registers.status.sie; sie = false };
  epc = pc;
  cause = cause;
  tval = tval;
}

-- a level's own registers after its SRET (4.1.1)
abbrev pub returned_supervisor : SupervisorCsrs → SupervisorCsrs
returned_supervisor registers =
    record registers {
      status = record registers.status { sie = registers.status.spie; spie = true; spp = false };
    }

-- what a trap or an SRET leaves: the registers and the mode
pub record Arrival : Type 0 where
  pub csrs : Csrs
  pub regs : Regs
  pub mode : Mode

-- hstatus.SPVP after a trap into HS: the privilege that it came from, but unchanged where V was 0 (8.2.1)
abbrev pub spvp_after : Csrs → Mode → Bool
spvp_after csrs mode = if is_virtual mode then is_supervisor mode else csrs.hstatus.spvp

-- whether a trap is a guest-page fault: of a fetch, a load, or a store or atomic operation (8.6.1)
abbrev pub is_guest_page_fault : Trap → Bool
is_guest_page_fault trap = not trap.interrupt && list_any (λ c. c == trap.cause) (20 ∷ 21 ∷ 23 ∷ [])

-- htval after a trap into HS: for a guest-page fault always the guest physical address, shifted right by 2
-- (own); else 0 (8.2.8)
abbrev pub htval_of : Trap → ℕ
htval_of trap = if is_guest_page_fault trap then trap.tval2 else 0

-- htinst after a trap into HS: for a guest-page fault of the implicit read of a first-stage entry the
-- pseudoinstruction, but 0 where htval is 0 (own); else 0 (own: no transformed instruction) (8.2.9, 8.6.3)
abbrev pub htinst_of : Trap → ℕ
htinst_of trap = if trap.implicit && is_guest_page_fault trap && not (trap.tval2 == 0) then 0x3000 else 0

-- a trap into HS (8.6.2; 8.2.1 for hstatus, 8.2.8 for htval)
unfoldable pub entered_hs : Csrs → Regs → Mode → Trap → Arrival
entered_hs csrs regs mode trap = record {
  csrs = record csrs {
    hs =
        entered_supervisor csrs.hs (is_supervisor mode) regs.pc (cause_of trap.interrupt trap.cause)
        trap.tval;
    hstatus = record csrs.hstatus { gva = trap.gva; spv = is_virtual mode; spvp = spvp_after csrs mode };
    htval = htval_of trap;
    htinst = htinst_of trap;
  };
  regs = record regs { pc = handler_of csrs.hs.tvec trap.interrupt trap.cause };
  mode = HS;
}

-- the code that VS sees: a VS-level interrupt as the supervisor interrupt that it stands for, one less
-- (8.2.2)
abbrev pub vs_code_of : Trap → ℕ
vs_code_of trap = if trap.interrupt then trap.cause - 1 else trap.cause

-- a trap into VS, from VS or VU (8.6.2)
unfoldable pub entered_vs : Csrs → Regs → Mode → Trap → Arrival
entered_vs csrs regs mode trap = record {
  csrs = record csrs {
    vs =
        entered_supervisor csrs.vs (is_supervisor mode) regs.pc (cause_of trap.interrupt (vs_code_of trap))
        trap.tval;
  };
  regs = record regs { pc = handler_of csrs.vs.tvec trap.interrupt (vs_code_of trap) };
  mode = VS;
}

-- SRET in HS (8.6.4)
abbrev pub returned_from_hs : Csrs → Regs → Arrival
returned_from_hs csrs regs = record {
  csrs = record csrs { hs = returned_supervisor csrs.hs; hstatus = record csrs.hstatus { spv = false } };
  regs = record regs { pc = csrs.hs.epc };
  mode = mode_of csrs.hstatus.spv csrs.hs.status.spp;
}

-- SRET in VS: V stays 1 (8.6.4)
abbrev pub returned_from_vs : Csrs → Regs → Arrival
returned_from_vs csrs regs = record {
  csrs = record csrs { vs = returned_supervisor csrs.vs };
  regs = record regs { pc = csrs.vs.epc };
  mode = mode_of true csrs.vs.status.spp;
}

-- SRET in HS or VS (8.6.4)
unfoldable pub returned : Csrs → Regs → Mode → Arrival
returned csrs regs mode = if is_virtual mode then returned_from_vs csrs regs else returned_from_hs csrs regs

-- a state after a trap or an SRET; the reservation stays (own)
abbrev pub arrived : Virtual → Arrival → Virtual
arrived state arrival = record state { csrs = arrival.csrs; regs = arrival.regs; mode = arrival.mode }

-- a state after a trap into this level, and after a trap where it goes
abbrev pub entered_at : Virtual → Trap → Level → Virtual
entered_at state trap level.HS = arrived state (entered_hs state.csrs state.regs state.mode trap)
entered_at state trap level.VS = arrived state (entered_vs state.csrs state.regs state.mode trap)

abbrev pub entered_by_trap : Virtual → Trap → Virtual
entered_by_trap state trap = entered_at state trap (target state.csrs state.mode trap)
