-- Where a machine's present mode has an address, as one who looks at it asks (own).
use Rattle.std.specs.Prelude.{ℕ, Option, false}
use Rattle.std.specs.Result.{result_ok}
use Rattle.arch_defs.specs.declared.modes.Access.{Access}
use Rattle.arch_defs.specs.Memory.{ram_memory}
use Rattle.machine_defs.specs.Answers.{answer_of, located_by_walk}
use Rattle.machine_defs.specs.Machine.{Machine}

-- the physical address in RAM of an access to a virtual address, by both stages as the registers and RAM are,
-- and by no cached translation. The device page is no RAM
abbrev pub looked_up : Machine → ℕ → Access → Option ℕ
looked_up m va access = let state = m.platform.virt in
    result_ok (answer_of false state.csrs (ram_memory m.ram)
    (located_by_walk state.csrs state.mode (ram_memory m.ram) va access))
