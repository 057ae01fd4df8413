-- Where in RAM a machine's present mode has an address, as one who looks at it asks (own).
use Rattle.std.specs.Prelude.{ℕ, ◌-◌, Option, option_map}
use Rattle.arch_defs.specs.declared.modes.Access.TheVariants.{Load}
use Rattle.arch_defs.specs.Memory.{ram_base}
use Rattle.machine_defs.specs.Lookups.{looked_up}
use Rattle.machine_defs.specs.Machine.{Machine}

-- the offset into RAM at which a load from a virtual address is made
abbrev pub offset_of : Machine → ℕ → Option ℕ
offset_of m va = option_map (λ place. place - ram_base) (looked_up m va Load)
