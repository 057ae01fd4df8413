-- What `emulate` and `access` answer and leave, as the end of an instruction.
use Rattle.std.specs.Prelude.{◌≡◌, ⊤, Bool, true, false, Some, None}
use Rattle.arch_defs.specs.declared.registers.Virtual.{Virtual}
use Rattle.arch_defs.specs.Memory.{Mmu}
use Rattle.op_defs.specs.declared.ops.Op.{Op}
use Rattle.op_defs.specs.declared.ops.Op.TheVariants as op
use Rattle.machine_defs.specs.declared.events.Event.TheVariants.{System}
use Rattle.machine_defs.specs.Core.{decoded}
use Rattle.machine_defs.specs.Outcomes.{Outcome}
use Rattle.machine_defs.specs.Outcomes as outcome
use Rattle.rv64_asm.specs.Words.{encoded}
use Rattle.hcsr_emulation.specs.declared.emulation.Emulated.{Emulated}
use Rattle.hcsr_emulation.specs.declared.emulation.Emulated.TheVariants as emulated
use Rattle.hcsr_emulation.specs.declared.registers.Accessed.{Accessed}
use Rattle.hcsr_emulation.specs.declared.registers.Accessed.TheVariants.{Done, Raise}

-- whether the mode decides on an instruction
unfoldable pub is_decided : Op → Bool
is_decided (op.Csr o source rd number) = true
is_decided op.Sret = true
is_decided op.Wfi = true
is_decided (op.SfenceVma rs1 rs2) = true
is_decided (op.HfenceVvma rs1 rs2) = true
is_decided (op.HfenceGvma rs1 rs2) = true
is_decided (op.GuestLoad w signed rd rs1) = true
is_decided (op.GuestFetch w rd rs1) = true
is_decided (op.GuestStore w rs1 rs2) = true
is_decided other = false

-- an instruction on a control and status register, or an SRET
abbrev pub IsCsrOrSret : Op → Type 0
IsCsrOrSret (op.Csr o source rd number) = ⊤
IsCsrOrSret op.Sret = ⊤
IsCsrOrSret other = ⊥

-- the instruction that was decoded to this op ends so, whatever its accesses go through. Its word is the one
-- that the op is encoded to: an op of opcode SYSTEM has no other (`SystemOpHasOneWord` of `rv64_asm`)
abbrev pub EndsSo : Op → Virtual → Outcome → Type 0
EndsSo o before end = (through : Mmu) → decoded through before (encoded o) (Some o) ≡ end

-- how it ended, by the answer of `emulate` and the state after it
abbrev pub emulated_outcome : Emulated → Virtual → Outcome
emulated_outcome emulated.Done state = outcome.Done state None System
emulated_outcome emulated.Waits state = outcome.Waits state
emulated_outcome (emulated.Fenced fence) state = outcome.Fenced state fence
emulated_outcome (emulated.FirstFenced named fence) state = outcome.FirstFenced state named fence
emulated_outcome (emulated.Accesses access) state = outcome.Accesses access
emulated_outcome (emulated.Raise trap) state = outcome.Trapped trap

-- where it was not made
abbrev pub IfNotEmulated : Emulated → Type 0 → Type 0
IfNotEmulated emulated.Done P = ⊤
IfNotEmulated emulated.Waits P = ⊤
IfNotEmulated (emulated.Fenced fence) P = ⊤
IfNotEmulated (emulated.FirstFenced named fence) P = ⊤
IfNotEmulated (emulated.Accesses access) P = P
IfNotEmulated (emulated.Raise trap) P = P

-- how it ended, by the answer of `access`
abbrev pub accessed_outcome : Accessed → Virtual → Outcome
accessed_outcome Done state = outcome.Done state None System
accessed_outcome (Raise trap) state = outcome.Trapped trap

-- where the instruction trapped
abbrev pub IfAccessRaised : Accessed → Type 0 → Type 0
IfAccessRaised Done P = ⊤
IfAccessRaised (Raise trap) P = P
