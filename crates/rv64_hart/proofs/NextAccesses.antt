-- The accesses of the instruction at pc, by the answers of both stages.
use Rattle.std.specs.Prelude.{option_and_then}
use Rattle.std.proofs.Common.{◌≡◌, ℕ, false, List, Some, None, Ok, Err, refl}
use Rattle.arch_defs.specs.declared.modes.Trap.{Trap}
use Rattle.arch_defs.specs.declared.registers.Csrs.{Csrs}
use Rattle.arch_defs.specs.declared.registers.Virtual.{Virtual}
use Rattle.arch_defs.specs.Memory.{Reading, machine_memory}
use Rattle.op_defs.specs.declared.ops.DataAccess.{DataAccess}
use Rattle.op_defs.specs.Table.{op_of}
use Rattle.machine_defs.specs.Answers.{answer_of}
use Rattle.machine_defs.specs.Core.{At, Fails, Located, word_at}
use Rattle.instruction_laws.specs.MissedPlaces.{wanted_at, wanted_of}
use Rattle.rv64_hart.specs.MachineMemory.{reading_of_memory}
use Rattle.rv64_hart.specs.NextAccesses.{with_place, word_there}
use Rattle.rv64_hart.proofs.Places.{found}

-- the word at its place, and none where there is no place
pub word_found : (csrs : Csrs) (memory : List ℕ) (located : Located) (place : ℕ)
    → Ok place ≡ answer_of false csrs (machine_memory memory) located
    → Some (word_at (reading_of_memory memory) place) ≡ word_there (reading_of_memory memory) located
word_found csrs memory located place e = rw (found csrs memory located place e) refl

pub word_none : (csrs : Csrs) (memory : List ℕ) (located : Located) (trap : Trap)
    → Err trap ≡ answer_of false csrs (machine_memory memory) located
    → None ≡ word_there (reading_of_memory memory) located
word_none csrs memory (At place) trap e = absurd (cc)
word_none csrs memory (Fails failure) trap e = refl

-- so is an access to data
pub place_found : (csrs : Csrs) (memory : List ℕ) (wanted : DataAccess) (located : Located) (place : ℕ)
    → Ok place ≡ answer_of false csrs (machine_memory memory) located
    → Some (wanted, place) ≡ with_place wanted located
place_found csrs memory wanted located place e = rw (found csrs memory located place e) refl

pub place_none : (csrs : Csrs) (memory : List ℕ) (wanted : DataAccess) (located : Located) (trap : Trap)
    → Err trap ≡ answer_of false csrs (machine_memory memory) located → None ≡ with_place wanted located
place_none csrs memory wanted (At place) trap e = absurd (cc)
place_none csrs memory wanted (Fails failure) trap e = refl

-- what a word at its place wants
pub wanted_by_word : (reading : Reading) (virt : Virtual) (located : Located)
    → option_and_then (λ word. wanted_of virt (op_of word)) (word_there reading located) ≡ wanted_at reading virt located
wanted_by_word reading virt (At place) = refl
wanted_by_word reading virt (Fails failure) = refl
