-- Instructions of opcode SYSTEM that the mode decides on: how each ends, by mode (Privileged Architecture
-- 20211203, but where another standard is named). Memory has no part in them.
use Rattle.std.specs.Prelude.{ℕ, ◌-◌, ◌^◌, Bool, true, false, Option, Some, None, Result, Ok, Err, bit_and, bit_or, if◌then◌else◌}
use Rattle.arch_defs.specs.declared.csr_names.CsrEnd.{CsrEnd}
use Rattle.arch_defs.specs.declared.csr_names.CsrEnd.TheVariants.{Illegal, Virtual as VirtualInstruction}
use Rattle.arch_defs.specs.declared.first.Tag.TheVariants.{Nested}
use Rattle.arch_defs.specs.declared.modes.Mode.{Mode}
use Rattle.arch_defs.specs.declared.modes.Mode.TheVariants.{HS, U, VS, VU}
use Rattle.arch_defs.specs.declared.modes.TheConstants.{ILLEGAL_INSTRUCTION, VIRTUAL_INSTRUCTION}
use Rattle.arch_defs.specs.declared.registers.Csrs.{Csrs}
use Rattle.arch_defs.specs.declared.registers.HypervisorStatus.{HypervisorStatus}
use Rattle.arch_defs.specs.declared.registers.Virtual.{Virtual}
use Rattle.arch_defs.specs.CsrAccess.{read_csr, write_csr}
use Rattle.arch_defs.specs.Traps.{arrived, exception, returned}
use Rattle.op_defs.specs.declared.ops.CsrOp.{CsrOp}
use Rattle.op_defs.specs.declared.ops.CsrOp.TheVariants as csr
use Rattle.op_defs.specs.declared.ops.Privileged.{Privileged}
use Rattle.op_defs.specs.declared.ops.Privileged.TheVariants.{Csr, Sret, Wfi, SfenceVma, HfenceVvma, HfenceGvma, HlvAccess}
use Rattle.machine_defs.specs.declared.events.Event.TheVariants.{System}
use Rattle.arch_defs.specs.Registers.{passed, sets}
use Rattle.machine_defs.specs.Outcomes.{Outcome, Done, Trapped, Waits, Fenced, FirstFenced, Accesses}

-- the exception of an instruction that the mode does not allow: an illegal instruction, or a virtual one
-- (8.6.1; own: which of them, as `refusal` says)
abbrev pub refusal_code : CsrEnd → ℕ
refusal_code Illegal = ILLEGAL_INSTRUCTION
refusal_code VirtualInstruction = VIRTUAL_INSTRUCTION

abbrev pub refused : Virtual → ℕ → CsrEnd → Outcome
refused state word end = Trapped (exception state.mode (refusal_code end) word)

-- what an instruction makes of a register's number and its operand (Unprivileged ISA 20191213, 9.1)
abbrev pub combined : CsrOp → ℕ → ℕ → ℕ
combined csr.Write before operand = operand
combined csr.Set before operand = bit_or before operand
combined csr.Clear before operand = bit_and before (2 ^ 64 - 1 - operand)

-- what a register shows; where it cannot be read, a write is refused too
abbrev pub value_or_zero : Result ℕ CsrEnd → ℕ
value_or_zero (Ok value) = value
value_or_zero (Err end) = 0

-- rd gets what a register shows
abbrev pub csr_shown : Virtual → ℕ → ℕ → Result ℕ CsrEnd → Outcome
csr_shown state word rd (Ok value) = Done (sets state rd value) None System
csr_shown state word rd (Err end) = refused state word end

-- rd gets what a register showed, and the registers are those after the write
abbrev pub csr_changed : Virtual → ℕ → ℕ → ℕ → Result Csrs CsrEnd → Outcome
csr_changed state word rd value (Ok csrs) = Done (sets (record state { csrs = csrs }) rd value) None System
csr_changed state word rd value (Err end) = refused state word end

-- the read and, if there is one, the write (Unprivileged ISA 20191213, 9.1)
abbrev pub csr_accessed : Virtual → ℕ → CsrOp → ℕ → ℕ → Bool → ℕ → Outcome
csr_accessed state word op number operand true rd =
    let before = value_or_zero (read_csr state.csrs state.mode number) in
    csr_changed state word rd before (write_csr state.csrs state.mode number (combined op before operand))
csr_accessed state word op number operand false rd =
    csr_shown state word rd (read_csr state.csrs state.mode number)

-- the state after SRET
abbrev pub left_by_sret : Virtual → Outcome
left_by_sret state = Done (arrived state (returned state.csrs state.regs state.mode)) None System

-- the refusal where a bit of hstatus keeps an instruction from VS, and where one does not allow it in U
abbrev pub virtual_if : Bool → Option CsrEnd
virtual_if kept = if kept then Some VirtualInstruction else None

abbrev pub illegal_unless : Bool → Option CsrEnd
illegal_unless allowed = if allowed then None else Some Illegal

-- one row of a table by mode: HS, U, VS, VU
abbrev pub by_mode : Mode → Option CsrEnd → Option CsrEnd → Option CsrEnd → Option CsrEnd → Option CsrEnd
by_mode HS hs u vs vu = hs
by_mode U hs u vs vu = u
by_mode VS hs u vs vu = vs
by_mode VU hs u vs vu = vu

-- the refusal of an instruction by a mode that does not allow it (8.6.1; 8.2.1 for VTSR, VTW, VTVM and HU;
-- 8.3.1 and 8.3.2). A register says itself which modes may read and write it. A WFI that is refused is
-- refused at once, and in U each is (own)
unfoldable pub refusal : Privileged → HypervisorStatus → Mode → Option CsrEnd
refusal (Csr op number operand writes rd) hstatus mode = None
refusal Sret hstatus mode =
    by_mode mode None (Some Illegal) (virtual_if hstatus.vtsr) (Some VirtualInstruction)
refusal Wfi hstatus mode =
    by_mode mode None (Some Illegal) (virtual_if hstatus.vtw) (Some VirtualInstruction)
refusal (SfenceVma fence) hstatus mode =
    by_mode mode None (Some Illegal) (virtual_if hstatus.vtvm) (Some VirtualInstruction)
refusal (HfenceVvma fence) hstatus mode =
    by_mode mode None (Some Illegal) (Some VirtualInstruction) (Some VirtualInstruction)
refusal (HfenceGvma fence) hstatus mode =
    by_mode mode None (Some Illegal) (Some VirtualInstruction) (Some VirtualInstruction)
refusal (HlvAccess wanted) hstatus mode =
    by_mode mode None (illegal_unless hstatus.hu) (Some VirtualInstruction) (Some VirtualInstruction)

-- how an instruction ends that is allowed. HFENCE.VVMA is for accesses with V = 1 under the present hgatp
-- (8.3.1)
abbrev pub performed : Virtual → ℕ → Privileged → Outcome
performed state word (Csr op number operand writes rd) = csr_accessed state word op number operand writes rd
performed state word Sret = left_by_sret state
performed state word Wfi = Waits (passed state)
performed state word (SfenceVma fence) = FirstFenced (passed state) None fence
performed state word (HfenceVvma fence) =
    FirstFenced (passed state) (Some (Nested state.csrs.hgatp)) fence
performed state word (HfenceGvma fence) = Fenced (passed state) fence
performed state word (HlvAccess wanted) = Accesses wanted

-- how an instruction ends, by its refusal
abbrev pub decided : Virtual → ℕ → Privileged → Option CsrEnd → Outcome
decided state word effect (Some end) = refused state word end
decided state word effect None = performed state word effect

unfoldable pub privileged : Virtual → ℕ → Privileged → Outcome
privileged state word effect = decided state word effect (refusal effect state.csrs.hstatus state.mode)
