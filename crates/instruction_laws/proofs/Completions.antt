-- What an instruction leaves whose access to data is made, and how one goes on at the place of its access.
use Rattle.std.proofs.Common.{◌≡◌, ℕ, Bool, true, false, Option, refl}
use Rattle.arch_defs.specs.declared.modes.Trap.{Trap}
use Rattle.arch_defs.specs.declared.registers.Csrs.{Csrs}
use Rattle.arch_defs.specs.declared.registers.Virtual.{Virtual}
use Rattle.arch_defs.specs.declared.walks.MissingPlace.{MissingPlace}
use Rattle.arch_defs.specs.declared.widths.Width.{Width}
use Rattle.arch_defs.specs.Memory.{Memory, Reading, reading_of}
use Rattle.op_defs.specs.declared.ops.DataAccess.{DataAccess}
use Rattle.op_defs.specs.declared.ops.Purpose.{Purpose}
use Rattle.op_defs.specs.declared.ops.Purpose.TheVariants.{Load, LoadCode, Store, Reserve, StoreReserved, Modify}
use Rattle.machine_defs.specs.Answers.{is_device_now}
use Rattle.machine_defs.specs.Core.{At, Completion, Fails, Faults, Located, Misses, at_place, completed, is_reserved, stored_if}
use Rattle.machine_defs.specs.HlvAccesses.{hlv_end, hlv_missed, hlv_outcome, hlv_place}
use Rattle.machine_defs.specs.Outcomes.{Missed, Outcome, Trapped}
use Rattle.instruction_laws.specs.InstructionEnds.{HlvHas}

-- what holds of each trap, of each stop and of what follows at each place holds of an instruction with an
-- access
pub at_each : (P : Outcome → Type 0) (wanted : Option DataAccess) (rest : ℕ → Outcome) → ((trap : Trap) → P (Trapped trap)) → ((missing : MissingPlace) → P (Missed missing wanted))
    → ((place : ℕ) → P (rest place)) → (a : Located) → P (at_place wanted a rest)
at_each P wanted rest traps stops goes (At place) = goes place
at_each P wanted rest traps stops goes (Fails (Faults trap)) = traps trap
at_each P wanted rest traps stops goes (Fails (Misses missing)) = stops missing

-- the same where it follows at a place of which Q holds
abbrev pub LocatedHas : (ℕ → Type 0) → Located → Type 0
LocatedHas Q (At place) = Q place
LocatedHas Q (Fails failure) = Unit {0}

pub at_each_with : (P : Outcome → Type 0) (Q : ℕ → Type 0) (wanted : Option DataAccess) (rest : ℕ → Outcome) → ((trap : Trap) → P (Trapped trap))
    → ((missing : MissingPlace) → P (Missed missing wanted)) → ((place : ℕ) → Q place → P (rest place)) → (a : Located) → LocatedHas Q a → P (at_place wanted a rest)
at_each_with P Q wanted rest traps stops goes (At place) has = goes place has
at_each_with P Q wanted rest traps stops goes (Fails (Faults trap)) has = traps trap
at_each_with P Q wanted rest traps stops goes (Fails (Misses missing)) has = stops missing

-- and what holds of each completion holds of an HLV, HLVX or HSV
pub hlv_missed_has : (L : Completion → Type 0) (memory : Memory) (csrs : Csrs) (missing : MissingPlace) (on : Bool) → HlvHas L (hlv_missed memory csrs missing on)
hlv_missed_has L memory csrs missing true = tt
hlv_missed_has L memory csrs missing false = tt

pub hlv_each : (L : Completion → Type 0) (device : Bool) (memory : Memory) (s : Virtual) (wanted : DataAccess)
    → ((place : ℕ) → L (completed (reading_of memory) s wanted.width wanted.purpose place)) → HlvHas L (hlv_outcome device memory s wanted)
hlv_each L device memory s wanted has = by (hlv_place memory s.csrs wanted)
  where
    by : (a : Located) → HlvHas L (hlv_end device memory s wanted a)
    by (At place) = has place
    by (Fails (Faults trap)) = tt
    by (Fails (Misses missing)) = hlv_missed_has L memory s.csrs missing (is_device_now device s.csrs memory missing)

-- an access to data leaves all of a state but its x registers, pc and what is reserved
abbrev pub OnlyRegs : Virtual → Completion → Type 0
OnlyRegs s completion = completion.state ≡ record s { regs = completion.state.regs; reservation = completion.state.reservation }

pub completed_same : (reading : Reading) (s : Virtual) (width : Width) (purpose : Purpose) (place : ℕ) → OnlyRegs s (completed reading s width purpose place)
completed_same reading s width (Load signed rd) place = refl
completed_same reading s width (LoadCode rd) place = refl
completed_same reading s width (Store value) place = refl
completed_same reading s width (Reserve rd) place = refl
completed_same reading s width (StoreReserved value rd) place = by (is_reserved s.reservation place width)
  where
    by : (reserved : Bool) → OnlyRegs s (stored_if reserved s width value rd place)
    by true = refl
    by false = refl
completed_same reading s width (Modify op operand rd) place = refl
