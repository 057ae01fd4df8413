-- A guest's RAM in machine memory: under a second stage that has each guest physical address of RAM at its
-- place, the lone machine's second stage and reading are those of machine memory, renamed.
use Rattle.std.specs.Prelude.{ℕ, ◌≡◌, ◌+◌, ◌-◌, ◌*◌, ◌&&◌, List, Option, length, nat_le, nat_lt}
use Rattle.std.specs.Option.{option_map}
use Rattle.arch_defs.specs.declared.modes.Access.{Access}
use Rattle.arch_defs.specs.Frames.{Only, in_blocks}
use Rattle.arch_defs.specs.Memory.{SecondStage, Stored, bare, block_size, machine_memory, ram_base, ram_memory, reading_of, with_stored}
use Rattle.arch_defs.specs.Ram.{IsDistinct, SlicesLieIn, host_answer, host_place, ram_of}
use Rattle.instruction_laws.specs.Renaming.{GivesWithin, IsRenamed, Places, StoresWithin, stored_renamed}

-- the bytes of RAM of that many blocks
abbrev pub ram_size : List ℕ → ℕ
ram_size blocks = length blocks * block_size

-- the guest physical addresses of RAM, which are the lone machine's places
abbrev pub in_ram : List ℕ → Places
in_ram blocks place = nat_le ram_base place && nat_lt place (ram_base + ram_size blocks)

-- the place in machine memory of one of them
abbrev pub memory_place : List ℕ → ℕ → ℕ
memory_place blocks place = host_place blocks (place - ram_base)

-- the second stage that has each of them at its place, for every kind of access
abbrev pub host_second : List ℕ → SecondStage
host_second blocks address access = host_answer blocks address

-- a second stage that gives places of RAM alone, and the lone machine's reading, are renamed in machine
-- memory, whose base is 0, where another second stage gives each place at its place there
abbrev pub PlacesAreRenamed : Type 0
PlacesAreRenamed = (blocks memory : List ℕ) (own host : SecondStage)
    → SlicesLieIn block_size blocks (length memory) → IsDistinct blocks → GivesWithin (in_ram blocks) own
    → ((address : ℕ) (access : Access)
    → host address access ≡ option_map (memory_place blocks) (own address access))
    → IsRenamed (memory_place blocks) (in_ram blocks) own (reading_of (ram_memory (ram_of blocks memory)))
    host (reading_of (machine_memory memory))

-- so is RAM as it is
abbrev pub RamIsRenamed : Type 0
RamIsRenamed = (blocks memory : List ℕ)
    → SlicesLieIn block_size blocks (length memory) → IsDistinct blocks
    → IsRenamed (memory_place blocks) (in_ram blocks) (bare (ram_memory (ram_of blocks memory)))
    (reading_of (ram_memory (ram_of blocks memory))) (host_second blocks) (reading_of (machine_memory memory))

-- machine memory after a store to RAM, at the place's new name
abbrev pub memory_with : List ℕ → List ℕ → Option Stored → List ℕ
memory_with blocks memory stored = with_stored 0 (stored_renamed (memory_place blocks) stored) memory

-- its RAM is the lone machine's after that store
abbrev pub RamIsStored : Type 0
RamIsStored = (blocks memory : List ℕ) (stored : Option Stored)
    → SlicesLieIn block_size blocks (length memory) → IsDistinct blocks → StoresWithin (in_ram blocks) stored
    → ram_of blocks (memory_with blocks memory stored) ≡ with_stored ram_base stored (ram_of blocks memory)

-- and no byte outside RAM's frames changed
abbrev pub OnlyRamChanges : Type 0
OnlyRamChanges = (blocks memory : List ℕ) (stored : Option Stored)
    → SlicesLieIn block_size blocks (length memory) → StoresWithin (in_ram blocks) stored
    → Only (in_blocks blocks) memory (memory_with blocks memory stored)
