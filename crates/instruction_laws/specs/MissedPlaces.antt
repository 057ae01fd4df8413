-- What the stop of an instruction tells: what it wanted, and the place that it misses.
use Rattle.std.specs.Prelude.{ℕ, ◌≡◌, ◌+◌, ◌*◌, ◌/◌, ◌%◌, ◌==◌, false, Option, Some, None, if◌then◌else◌}
use Rattle.arch_defs.specs.declared.modes.Access.{Access}
use Rattle.arch_defs.specs.declared.modes.Access.TheVariants.{Fetch, Load, Store, Implicit}
use Rattle.arch_defs.specs.declared.modes.Mode.{Mode}
use Rattle.arch_defs.specs.declared.modes.TheConstants.{INSTRUCTION_GUEST_PAGE_FAULT, LOAD_GUEST_PAGE_FAULT}
use Rattle.arch_defs.specs.declared.modes.Trap.{Trap}
use Rattle.arch_defs.specs.declared.registers.Virtual.{Virtual}
use Rattle.arch_defs.specs.declared.walks.MissingPlace.{MissingPlace}
use Rattle.arch_defs.specs.Memory.{Mmu, Reading}
use Rattle.arch_defs.specs.SecondStage.{guest_page_trap, is_implicit}
use Rattle.arch_defs.specs.Traps.{faults_of}
use Rattle.op_defs.specs.declared.ops.DataAccess.{DataAccess}
use Rattle.op_defs.specs.declared.ops.Effect.{Effect}
use Rattle.op_defs.specs.declared.ops.Effect.TheVariants.{Sets, Raises, Data, Calls, Privileged}
use Rattle.op_defs.specs.declared.ops.Op.{Op}
use Rattle.op_defs.specs.Meaning.{meaning}
use Rattle.op_defs.specs.Table.{op_of}
use Rattle.machine_defs.specs.Core.{At, Fails, Located, core, fetch_place, word_at}
use Rattle.machine_defs.specs.Outcomes.{Missed}
use Rattle.instruction_laws.specs.Renaming.{KeepsPage}

-- the access to data that an effect wants, an instruction, and that of the word at a place; a privileged one
-- makes it as another mode
abbrev pub wanted_by : Effect → Option DataAccess
wanted_by (Data wanted) = Some wanted
wanted_by (Sets rd value next) = None
wanted_by (Raises cause tval) = None
wanted_by Calls = None
wanted_by (Privileged effect) = None

abbrev pub wanted_of : Virtual → Option Op → Option DataAccess
wanted_of virt None = None
wanted_of virt (Some op) = wanted_by (meaning op virt.regs)

abbrev pub wanted_at : Reading → Virtual → Located → Option DataAccess
wanted_at reading virt (At place) = wanted_of virt (op_of (word_at reading place))
wanted_at reading virt (Fails failure) = None

-- what a stopped instruction wanted is what the word at pc's place wants
abbrev pub MissedIsWanted : Type 0
MissedIsWanted = (through : Mmu) (virt : Virtual) (missing : MissingPlace) (wanted : Option DataAccess)
    → core through virt ≡ Missed missing wanted
    → wanted ≡ wanted_at through.reading virt (fetch_place through virt)

-- where it was not an implicit access, the guest physical address has the offset of the virtual one
abbrev pub MissedOffset : Type 0
MissedOffset = (through : Mmu) (virt : Virtual) (missing : MissingPlace) (wanted : Option DataAccess)
    → KeepsPage through.known → core through virt ≡ Missed missing wanted
    → is_implicit missing.kind ≡ false → missing.address % 4096 ≡ missing.va % 4096

-- the access of a guest-page fault, but for HLVX, which has the fault of a load
abbrev pub access_of : ℕ → Access
access_of code =
    if code == INSTRUCTION_GUEST_PAGE_FAULT then Fetch
    else if code == LOAD_GUEST_PAGE_FAULT then Load else Store

-- the place that its trap tells. The trap has the guest physical address without its low two bits (8.2.8):
-- those of an entry are 0, and other accesses have the offset of the virtual address
abbrev pub told_place : Mode → Trap → MissingPlace
told_place mode trap = record {
  address = if trap.implicit then trap.tval2 * 4 else trap.tval2 * 4 / 4096 * 4096 + trap.tval % 4096;
  kind = if trap.implicit then Implicit else access_of trap.cause;
  access = access_of trap.cause;
  va = trap.tval;
  mode = mode;
}

-- it is the place that the stopped instruction misses
abbrev pub MissedIsTold : Type 0
MissedIsTold = (through : Mmu) (virt : Virtual) (missing : MissingPlace) (wanted : Option DataAccess)
    → KeepsPage through.known → core through virt ≡ Missed missing wanted
    → access_of (faults_of missing.access).guest_page ≡ missing.access
    → told_place virt.mode (guest_page_trap missing) ≡ missing
