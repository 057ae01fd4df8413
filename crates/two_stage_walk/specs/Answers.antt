-- Where an access is made: in memory, or on the device page (own).
use Rattle.std.specs.Prelude.{ℕ, ◌≡◌, ◌⊎◌, ◌%◌, Bool, true, false, Result, Ok, Err}
use Rattle.arch_defs.specs.declared.modes.Trap.{Trap}
use Rattle.arch_defs.specs.declared.registers.Csrs.{Csrs}
use Rattle.arch_defs.specs.declared.walks.MissingPlace.{MissingPlace}
use Rattle.arch_defs.specs.Devices.{device_place}
use Rattle.arch_defs.specs.Memory.{Memory}
use Rattle.arch_defs.specs.SecondStage.{missing_place_trap}
use Rattle.machine_defs.specs.Answers.{is_device_now}
use Rattle.machine_defs.specs.Core.{At, Fails, Faults, Located, Misses}
use Rattle.two_stage_walk.specs.declared.translating.Place.{Place}
use Rattle.two_stage_walk.specs.declared.translating.Place.TheVariants.{InMemory, OnDevice}
use Rattle.two_stage_walk.specs.Places.{IsPlaceOf}

-- where one is made that has no place in memory: on the device page, if it is there, or else nowhere, with
-- the trap of the walk of now
abbrev pub placed_if : Csrs → Memory → MissingPlace → Bool → Result Place Trap
placed_if csrs memory missing true = Ok (OnDevice (missing.address % 4096))
placed_if csrs memory missing false = Err (missing_place_trap csrs memory missing)

abbrev pub placed_missing : Bool → Csrs → Memory → MissingPlace → Result Place Trap
placed_missing device csrs memory missing =
    placed_if csrs memory missing (is_device_now device csrs memory missing)

-- where one is made that is located so, of a machine that has the device page or not. Its address in memory,
-- or else in the page, is `answer_of`
abbrev pub placed : Bool → Csrs → Memory → Located → Result Place Trap
placed device csrs memory (At place) = Ok (InMemory place)
placed device csrs memory (Fails (Faults trap)) = Err trap
placed device csrs memory (Fails (Misses missing)) = placed_missing device csrs memory missing

-- the place is in memory, or on the page of a machine that has it, at the offset of the address
abbrev pub LiesBy : Bool → Memory → ℕ → Place → Type 0
LiesBy device memory address (InMemory place) = IsPlaceOf memory address place
LiesBy device memory address (OnDevice offset) = (device ≡ true) × (offset ≡ address % 4096)

-- so does its address
abbrev pub IsPlaceBy : Bool → Memory → ℕ → ℕ → Type 0
IsPlaceBy false memory address place = IsPlaceOf memory address place
IsPlaceBy true memory address place = IsPlaceOf memory address place ⊎ (place ≡ device_place address)
