-- The place of an access, or its trap to the hart.
use Rattle.std.proofs.Common.{◌≡◌, ◌%◌, ℕ, false, List, [], Some, None, Ok, Err, refl, sym}
use Rattle.arch_defs.specs.declared.hart_states.HartState.{HartState}
use Rattle.arch_defs.specs.declared.modes.Trap.{Trap}
use Rattle.arch_defs.specs.declared.registers.Csrs.{Csrs}
use Rattle.arch_defs.specs.declared.modes.Access.{Access}
use Rattle.arch_defs.specs.declared.registers.Virtual.{Virtual}
use Rattle.arch_defs.specs.declared.widths.Width.{Width}
use Rattle.arch_defs.specs.Memory.{machine_memory}
use Rattle.arch_defs.specs.Widths.{bytes_in}
use Rattle.op_defs.specs.Table.{op_of}
use Rattle.machine_defs.specs.Answers.{answer_of}
use Rattle.machine_defs.specs.Core.{Located, Faults, Misses, At, Fails, word_at}
use Rattle.instruction_laws.specs.MissedPlaces.{wanted_at, wanted_of}
use Rattle.translation_buffer.specs.Places.{place_on_hart}
use Rattle.translation_buffer.proofs.Hits.{hit_is_place, hits_find_nothing}
use Rattle.rv64_hart.specs.Endings.{IsAnswered}
use Rattle.rv64_hart.specs.MachineMemory.{access_over, found_over, reading_of_memory}

-- a place as both stages answer
pub found : (csrs : Csrs) (memory : List ℕ) (located : Located) (place : ℕ)
    → Ok place ≡ answer_of false csrs (machine_memory memory) located → located ≡ At place
found csrs memory (At other) place e = cc
found csrs memory (Fails (Faults own)) place e = absurd (cc)
found csrs memory (Fails (Misses missing)) place e = absurd (cc)

-- and a trap
pub failed : (s : HartState) (memory : List ℕ) (located : Located) (trap : Trap)
    → Err trap ≡ answer_of false s.virt.csrs (machine_memory memory) located → IsAnswered s memory located trap None
failed s memory (At place) trap e = absurd (cc)
failed s memory (Fails (Faults own)) trap e = λ first wanted rest. cc
failed s memory (Fails (Misses missing)) trap e = λ first wanted rest. cc

-- the place of an aligned access by what is kept, and that it finds nothing
pub at_place_found : (s : HartState) (memory : List ℕ) (va : ℕ) (width : Width) (access : Access) (place : ℕ)
    → va % bytes_in width ≡ 0 → Some place ≡ place_on_hart s memory va access → access_over memory s va width access ≡ At place
at_place_found s memory va width access place aligned is = hit_is_place s.virt.first s.tag s.virt memory va place width access aligned (sym is)

pub nothing_found : (s : HartState) (memory : List ℕ) (va : ℕ) (width : Width) (access : Access) (place : ℕ)
    → Some place ≡ place_on_hart s memory va access → found_over memory s va width access ≡ []
nothing_found s memory va width access place is = hits_find_nothing s.virt.first s.tag s.virt memory va place width access (sym is)

-- what the word at the place wants, and nothing where there is none
pub wanted_found : (virt : Virtual) (memory : List ℕ) (located : Located) (place : ℕ)
    → Ok place ≡ answer_of false virt.csrs (machine_memory memory) located
    → wanted_of virt (op_of (word_at (reading_of_memory memory) place)) ≡ wanted_at (reading_of_memory memory) virt located
wanted_found virt memory located place e = rw (found virt.csrs memory located place e) refl

pub wanted_none : (virt : Virtual) (memory : List ℕ) (located : Located) (trap : Trap)
    → Err trap ≡ answer_of false virt.csrs (machine_memory memory) located
    → None ≡ wanted_at (reading_of_memory memory) virt located
wanted_none virt memory (At place) trap e = absurd (cc)
wanted_none virt memory (Fails failure) trap e = refl
