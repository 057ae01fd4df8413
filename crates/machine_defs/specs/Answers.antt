-- The place or the trap of an access, where the second stage is as the registers and memory are.
use Rattle.std.specs.Prelude.{ℕ, Bool, true, false, not, ◌&&◌, Result, Ok, Err}
use Rattle.arch_defs.specs.declared.modes.Access.{Access}
use Rattle.arch_defs.specs.declared.modes.Mode.{Mode}
use Rattle.arch_defs.specs.declared.modes.Trap.{Trap}
use Rattle.arch_defs.specs.declared.registers.Csrs.{Csrs}
use Rattle.arch_defs.specs.declared.walks.MissingPlace.{MissingPlace}
use Rattle.arch_defs.specs.Devices.{device_place}
use Rattle.arch_defs.specs.Memory.{Memory, Mmu, mmu, nothing_known, reading_of}
use Rattle.arch_defs.specs.SecondStage.{device_by_walk, is_implicit, missing_place_trap, second_by_walk}
use Rattle.machine_defs.specs.Core.{Faults, Misses, Located, At, Fails, located}

-- what an access goes through as a mode, under the second stage of now
abbrev pub mmu_by_walk : Memory → Csrs → Mode → Mmu
mmu_by_walk memory csrs mode = mmu nothing_known (second_by_walk csrs mode memory) (reading_of memory)

-- where an access to a virtual address is made
abbrev pub located_by_walk : Csrs → Mode → Memory → ℕ → Access → Located
located_by_walk csrs mode memory va access = located (mmu_by_walk memory csrs mode) csrs mode va access

-- whether an access without a place is on the device page of a machine that has one, as memory is; no entry
-- is read there
abbrev pub is_device_now : Bool → Csrs → Memory → MissingPlace → Bool
is_device_now device csrs memory missing = device && (not (is_implicit missing.kind)
    && device_by_walk csrs missing.mode memory missing.address missing.kind)

-- the answer to it: its place there, or else the trap of the walk of now
abbrev pub missing_answer : Csrs → Memory → MissingPlace → Bool → Result ℕ Trap
missing_answer csrs memory missing true = Ok (device_place missing.address)
missing_answer csrs memory missing false = Err (missing_place_trap csrs memory missing)

abbrev pub answer_of : Bool → Csrs → Memory → Located → Result ℕ Trap
answer_of device csrs memory (At place) = Ok place
answer_of device csrs memory (Fails (Faults trap)) = Err trap
answer_of device csrs memory (Fails (Misses missing)) =
    missing_answer csrs memory missing (is_device_now device csrs memory missing)
