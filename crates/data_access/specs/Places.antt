-- Where an access is made, by both stages as the registers and memory are, and memory after it.
use Rattle.std.specs.Prelude.{ℕ, ◌≡◌, ◌+◌, ◌%◌, ◌≤◌, ⊤, Bool, false, length, Option, Result}
use Rattle.arch_defs.specs.declared.modes.Access.{Access}
use Rattle.arch_defs.specs.declared.modes.Mode.{Mode}
use Rattle.arch_defs.specs.declared.modes.Trap.{Trap}
use Rattle.arch_defs.specs.declared.registers.Csrs.{Csrs}
use Rattle.arch_defs.specs.declared.widths.Width.{Width}
use Rattle.arch_defs.specs.Memory.{Memory, Stored, with_stored}
use Rattle.arch_defs.specs.Widths.{bytes_in}
use Rattle.machine_defs.specs.Answers.{answer_of, mmu_by_walk}
use Rattle.machine_defs.specs.Core.{Located, accessed}
use Rattle.two_stage_walk.specs.declared.translating.Place.{Place}
use Rattle.two_stage_walk.specs.declared.translating.Place.TheVariants.{InMemory, OnDevice}
use Rattle.two_stage_walk.specs.Answers.{placed}

-- an access of a width as a mode
abbrev pub accessed_by_walk : Memory → Csrs → Mode → ℕ → Width → Access → Located
accessed_by_walk memory csrs mode va width access =
    accessed (mmu_by_walk memory csrs mode) csrs mode va width access

-- its place in memory, or its trap
abbrev pub place_or_trap : Memory → Csrs → Mode → ℕ → Width → Access → Result ℕ Trap
place_or_trap memory csrs mode va width access =
    answer_of false csrs memory (accessed_by_walk memory csrs mode va width access)

-- its place in memory or on the device page, or its trap, of a machine that has this page or not
abbrev pub place_or_page : Bool → Memory → Csrs → Mode → ℕ → Width → Access
    → Result Place Trap
place_or_page device memory csrs mode va width access =
    placed device csrs memory (accessed_by_walk memory csrs mode va width access)

-- a place is a multiple of a width, and memory has all bytes of the width from it on
pub record IsPlaceFor (memory : Memory) (width : Width) (place : ℕ) : Type 0 where
  pub from : memory.base ≤ place
  pub to : place + bytes_in width ≤ memory.base + length memory.bytes
  pub aligned : place % bytes_in width ≡ 0

-- so is one that is in memory
abbrev pub FitsIn : Memory → Width → Place → Type 0
FitsIn memory width (InMemory place) = IsPlaceFor memory width place
FitsIn memory width (OnDevice offset) = ⊤

-- memory with what an access stores, if it stores: the same addresses, and no other byte changed
pub record HoldsStored (before : Memory) (stored : Option Stored) (after : Memory) : Type 0 where
  pub base : after.base ≡ before.base
  pub size : length after.bytes ≡ length before.bytes
  pub bytes : after.bytes ≡ with_stored before.base stored before.bytes
