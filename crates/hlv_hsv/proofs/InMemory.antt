-- An access whose place is in memory.
use Rattle.std.proofs.Common.{◌≡◌, ℕ, Bool, true, false, Ok, refl, subst}
use Rattle.arch_defs.specs.declared.modes.Mode.{Mode}
use Rattle.arch_defs.specs.declared.registers.Virtual.{Virtual}
use Rattle.arch_defs.specs.declared.walks.MissingPlace.{MissingPlace}
use Rattle.arch_defs.specs.Memory.{Memory, reading_of}
use Rattle.op_defs.specs.declared.ops.DataAccess.{DataAccess}
use Rattle.machine_defs.specs.Answers.{is_device_now}
use Rattle.machine_defs.specs.Core.{At, Completion, Fails, Faults, Located, Misses, completed, kind_of}
use Rattle.machine_defs.specs.HlvAccesses.{Completes, hlv_end, hlv_missed, hlv_mode, hlv_outcome, hlv_place}
use Rattle.two_stage_walk.specs.declared.translating.Place.TheVariants.{InMemory}
use Rattle.two_stage_walk.specs.Answers.{placed, placed_if}
use Rattle.data_access.specs.Places.{place_or_page}

module _ (device : Bool) (memory : Memory) (state : Virtual) (wanted : DataAccess) (place : ℕ) where
  -- what it leaves where it completes there
  abbrev left : Completion
  left = completed (reading_of memory) state wanted.width wanted.purpose place

  unplaced : (missing : MissingPlace) (on : Bool) → placed_if state.csrs memory missing on ≡ Ok (InMemory place)
      → hlv_missed memory state.csrs missing on ≡ Completes left
  unplaced missing true is = cc
  unplaced missing false is = cc

  completes_at : (l : Located) → placed device state.csrs memory l ≡ Ok (InMemory place)
      → hlv_end device memory state wanted l ≡ Completes left
  completes_at (At other) is = let same : other ≡ place = cc in rw same refl
  completes_at (Fails (Faults trap)) is = cc
  completes_at (Fails (Misses missing)) is = unplaced missing (is_device_now device state.csrs memory missing) is

  pub in_memory : (mode : Mode) → mode ≡ hlv_mode state.csrs
      → place_or_page device memory state.csrs mode wanted.address wanted.width (kind_of wanted.purpose) ≡ Ok (InMemory place)
      → hlv_outcome device memory state wanted ≡ Completes left
  in_memory mode same is =
      completes_at (hlv_place memory state.csrs wanted)
      (subst (λ m. place_or_page device memory state.csrs m wanted.address wanted.width (kind_of wanted.purpose) ≡ Ok (InMemory place)) same is)
