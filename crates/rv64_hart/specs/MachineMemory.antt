-- Machine memory, which begins at 0, as the core sees it on the hart.
use Rattle.std.specs.Prelude.{ℕ, List, [], Option, Some, None}
use Rattle.arch_defs.specs.declared.first.FirstEntry.{FirstEntry}
use Rattle.arch_defs.specs.declared.hart_states.HartState.{HartState}
use Rattle.arch_defs.specs.declared.modes.Access.{Access}
use Rattle.arch_defs.specs.declared.registers.Virtual.{Virtual}
use Rattle.arch_defs.specs.declared.widths.Width.{Width}
use Rattle.arch_defs.specs.Memory.{Known, Mmu, Reading, SecondStage, machine_memory, mmu, reading_of}
use Rattle.arch_defs.specs.SecondStage.{second_by_walk}
use Rattle.op_defs.specs.declared.ops.DataAccess.{DataAccess}
use Rattle.machine_defs.specs.Core.{Located, accessed, fetch_place, kind_of}
use Rattle.machine_defs.specs.FirstLeaves.{found_for, known_of, leaves_found}
use Rattle.instruction_laws.specs.MissedPlaces.{wanted_at}

-- what memory gives at a physical address
abbrev pub reading_of_memory : List ℕ → Reading
reading_of_memory memory = reading_of (machine_memory memory)

-- the hart's second stage: with V = 1 the walk of its own hgatp's table in machine memory as it is
abbrev pub second_of_memory : Virtual → List ℕ → SecondStage
second_of_memory virt memory = second_by_walk virt.csrs virt.mode (machine_memory memory)

-- what is known to it by its cached first-stage translations
abbrev pub known_on : HartState → Known
known_on s = known_of s.virt.first s.tag s.virt

-- what its accesses go through: its cached first-stage translations, and then walks
abbrev pub mmu_on : HartState → List ℕ → Mmu
mmu_on s memory = mmu (known_on s) (second_of_memory s.virt memory) (reading_of_memory memory)

-- where in memory an instruction makes an access of its own, and the first-stage translation that it finds
abbrev pub access_over : List ℕ → HartState → ℕ → Width → Access → Located
access_over memory s va width access = accessed (mmu_on s memory) s.virt.csrs s.virt.mode va width access

abbrev pub found_over : List ℕ → HartState → ℕ → Width → Access → List FirstEntry
found_over memory s va width access = found_for s.tag (mmu_on s memory) s.virt va width access

-- and that of its access to data, if it wants one
abbrev pub found_by_wanted : HartState → List ℕ → Option DataAccess → List FirstEntry
found_by_wanted s memory None = []
found_by_wanted s memory (Some wanted) =
    found_over memory s wanted.address wanted.width (kind_of wanted.purpose)

-- all that its next instruction finds
unfoldable pub found_on : HartState → List ℕ → List FirstEntry
found_on s memory = leaves_found s.tag (mmu_on s memory) s.virt

-- what access to data the word at pc wants, by the hart's own fetch, whether or not that access has a place
abbrev pub wanted_next : HartState → List ℕ → Option DataAccess
wanted_next s memory =
    wanted_at (reading_of_memory memory) s.virt (fetch_place (mmu_on s memory) s.virt)
