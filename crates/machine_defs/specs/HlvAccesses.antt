-- HLV, HLVX and HSV, whose access is made by both stages as the registers and memory are (Privileged
-- Architecture 20211203, 8.2.1, 8.3.1 and 8.5).
use Rattle.std.specs.Prelude.{Bool, true, false}
use Rattle.arch_defs.specs.declared.modes.Mode.{Mode}
use Rattle.arch_defs.specs.declared.modes.Trap.{Trap}
use Rattle.arch_defs.specs.declared.registers.Csrs.{Csrs}
use Rattle.arch_defs.specs.declared.registers.Virtual.{Virtual}
use Rattle.arch_defs.specs.declared.walks.MissingPlace.{MissingPlace}
use Rattle.arch_defs.specs.Memory.{Memory, reading_of}
use Rattle.arch_defs.specs.SecondStage.{missing_place_trap}
use Rattle.arch_defs.specs.Traps.{mode_of}
use Rattle.op_defs.specs.declared.ops.DataAccess.{DataAccess}
use Rattle.machine_defs.specs.Answers.{is_device_now, mmu_by_walk}
use Rattle.machine_defs.specs.Core.{At, Completion, Fails, Faults, Located, Misses, completed, data_place}

-- as whom the access is made, whatever the mode is: with V = 1 and the privilege of hstatus.SPVP (8.2.1)
abbrev pub hlv_mode : Csrs → Mode
hlv_mode csrs = mode_of true csrs.hstatus.spvp

-- its place, or why it has none, as that mode, whose tables are those of vsatp and hgatp, and whose status is
-- vsstatus (8.3.1, 8.5)
abbrev pub hlv_place : Memory → Csrs → DataAccess → Located
hlv_place memory csrs wanted =
    let mode = hlv_mode csrs in data_place (mmu_by_walk memory csrs mode) csrs mode wanted

-- how the instruction ends: it completes, its access is on the device page, or it traps
pub data HlvEnd : Type 0 where
  Completes : Completion → HlvEnd
  Device : MissingPlace → HlvEnd
  Traps : Trap → HlvEnd

-- by whether the access that has no place is on the device page
abbrev pub hlv_missed : Memory → Csrs → MissingPlace → Bool → HlvEnd
hlv_missed memory csrs missing true = Device missing
hlv_missed memory csrs missing false = Traps (missing_place_trap csrs memory missing)

-- by where its access is made
abbrev pub hlv_end : Bool → Memory → Virtual → DataAccess → Located → HlvEnd
hlv_end device memory state wanted (At place) =
    Completes (completed (reading_of memory) state wanted.width wanted.purpose place)
hlv_end device memory state wanted (Fails (Faults trap)) = Traps trap
hlv_end device memory state wanted (Fails (Misses missing)) =
    hlv_missed memory state.csrs missing (is_device_now device state.csrs memory missing)

-- the instruction of an access, of a machine that has the device page or not
abbrev pub hlv_outcome : Bool → Memory → Virtual → DataAccess → HlvEnd
hlv_outcome device memory state wanted =
    hlv_end device memory state wanted (hlv_place memory state.csrs wanted)
