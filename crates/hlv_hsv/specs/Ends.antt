-- What `access` answers and leaves, by how its instruction ends.
use Rattle.std.specs.Prelude.{◌≡◌, ◌%◌, ◌⊎◌, ⊤, length, Bool, true, Option, Some, None, Result, Ok, Err}
use Rattle.arch_defs.specs.declared.modes.Trap.{Trap}
use Rattle.arch_defs.specs.declared.registers.Virtual.{Virtual}
use Rattle.arch_defs.specs.Consoles.{ConsoleState}
use Rattle.arch_defs.specs.Memory.{Memory, Mmu, with_stored}
use Rattle.arch_defs.specs.Traps.{missing_place_fault}
use Rattle.op_defs.specs.declared.ops.DataAccess.{DataAccess}
use Rattle.op_defs.specs.declared.ops.Op.{Op}
use Rattle.op_defs.specs.declared.ops.Op.TheVariants as op
use Rattle.machine_defs.specs.Core.{Completion, decoded}
use Rattle.machine_defs.specs.DeviceSteps.{DeviceCompletion, device_completed}
use Rattle.machine_defs.specs.HlvAccesses.{Completes, Device, HlvEnd, Traps, hlv_outcome}
use Rattle.machine_defs.specs.Outcomes.{Outcome}
use Rattle.machine_defs.specs.Outcomes as outcome
use Rattle.rv64_asm.specs.Fitting.{fits}
use Rattle.rv64_asm.specs.Words.{encoded}
use Rattle.hcsr_emulation.specs.declared.registers.Accessed.{Accessed}
use Rattle.hcsr_emulation.specs.declared.registers.Accessed.TheVariants.{Done, Raise}
use Rattle.phys_mem.specs.declared.accesses.Mem as mems

-- an HLV, HLVX or HSV
abbrev pub IsHlvOrHsv : Op → Type 0
IsHlvOrHsv (op.GuestLoad width signed rd rs1) = ⊤
IsHlvOrHsv (op.GuestFetch width rd rs1) = ⊤
IsHlvOrHsv (op.GuestStore width rs1 rs2) = ⊤
IsHlvOrHsv other = ⊥

-- whose fields fit
pub record IsHlvOp (o : Op) : Type 0 where
  pub kind : IsHlvOrHsv o
  pub fits : fits o ≡ true

-- what such an instruction is made on: registers, memory and the console
pub record HlvState : Type 0 where
  pub virt : Virtual
  pub memory : Memory
  pub console : ConsoleState

abbrev pub hlv_state : Virtual → Memory → ConsoleState → HlvState
hlv_state virt memory console = record { virt = virt; memory = memory; console = console }

-- what one leaves that completes
abbrev pub completed_from : HlvState → Completion → HlvState
completed_from before completion = record {
  virt = completion.state;
  memory = record before.memory {
    bytes = with_stored before.memory.base completion.stored before.memory.bytes;
  };
  console = before.console;
}

-- what one on the device page leaves, which is at most registers and console, or its trap where the page does
-- not serve it
abbrev pub served_from : HlvState → Trap → Option DeviceCompletion → Result HlvState Trap
served_from before fault None = Err fault
served_from before fault (Some completion) =
    Ok (hlv_state completion.virt before.memory completion.console)

-- what one leaves, or its trap. The clock of the page is what a read of time shows
abbrev pub hlv_left : DataAccess → HlvState → HlvEnd → Result HlvState Trap
hlv_left wanted before (Completes completion) = Ok (completed_from before completion)
hlv_left wanted before (Device missing) =
    served_from before (missing_place_fault missing)
    (device_completed before.virt before.console before.virt.csrs.time (missing.address % 4096)
    wanted.width wanted.purpose)
hlv_left wanted before (Traps trap) = Err trap

-- so it ended, by the answer and what is after it
abbrev pub EndsAs : Result HlvState Trap → Accessed → HlvState → Type 0
EndsAs (Ok left) Done after = after ≡ left
EndsAs (Err trap) (Raise raised) after = raised ≡ trap
EndsAs (Ok left) (Raise raised) after = ⊥
EndsAs (Err trap) Done after = ⊥

-- an instruction ended so, of a machine that has the device page or not: its access is allowed, and it left
-- that; or it is to trap
abbrev pub EndsBy : Bool → HlvState → Outcome → Accessed → HlvState → Type 0
EndsBy device before (outcome.Accesses wanted) answer after =
    EndsAs (hlv_left wanted before (hlv_outcome device before.memory before.virt wanted)) answer after
EndsBy device before (outcome.Trapped trap) answer after = answer ≡ Raise trap
EndsBy device before other answer after = ⊥

-- the instruction that was decoded to this op, whose word is the one that the op is encoded to, ended so,
-- whatever its own accesses go through
abbrev pub IsAccessed : Op → Bool → HlvState → Accessed → HlvState → Type 0
IsAccessed o device before answer after = (through : Mmu)
    → EndsBy device before (decoded through before.virt (encoded o) (Some o)) answer after

-- memory is still as long and still backed. It stays, or changes as by a store
pub record KeepsMemory {Y : Type 0} (M : mems.Ghosts Y) (old new : Y) : Type 0 where
  pub size : length (M.memory new).bytes ≡ length (M.memory old).bytes
  pub backed : M.is_backed new
  pub keeps : (new ≡ old) ⊎ M.keeps old new
