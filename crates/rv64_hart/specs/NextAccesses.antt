-- What the accesses of the instruction at pc give, before it is made: its fetch the word there, and its
-- access to data a place.
use Rattle.std.specs.Prelude.{ℕ, List, Option, Some, None}
use Rattle.arch_defs.specs.declared.hart_states.HartState.{HartState}
use Rattle.arch_defs.specs.declared.registers.Virtual.{Virtual}
use Rattle.arch_defs.specs.Memory.{Mmu, Reading}
use Rattle.op_defs.specs.declared.ops.DataAccess.{DataAccess}
use Rattle.machine_defs.specs.Core.{At, Fails, Located, data_place, fetch_place, word_at}
use Rattle.rv64_hart.specs.MachineMemory.{mmu_on, reading_of_memory, wanted_next}

-- the word where a fetch has a place
abbrev pub word_there : Reading → Located → Option ℕ
word_there reading (At place) = Some (word_at reading place)
word_there reading (Fails failure) = None

abbrev pub word_on : HartState → List ℕ → Option ℕ
word_on s memory = word_there (reading_of_memory memory) (fetch_place (mmu_on s memory) s.virt)

-- an access to data with its place, where it has one
abbrev pub with_place : DataAccess → Located → Option (DataAccess × ℕ)
with_place wanted (At place) = Some (wanted, place)
with_place wanted (Fails failure) = None

abbrev pub placed_access : Mmu → Virtual → Option DataAccess → Option (DataAccess × ℕ)
placed_access through virt (Some wanted) =
    with_place wanted (data_place through virt.csrs virt.mode wanted)
placed_access through virt None = None

abbrev pub access_on : HartState → List ℕ → Option (DataAccess × ℕ)
access_on s memory = placed_access (mmu_on s memory) s.virt (wanted_next s memory)
