-- An access whose place is on the device page.
use Rattle.std.proofs.Common.{◌≡◌, ℕ, ◌%◌, Bool, true, false, ◌==◌, Option, Some, None, Ok, cond, refl, subst}
use Rattle.arch_defs.specs.declared.modes.Access.{Access}
use Rattle.arch_defs.specs.declared.modes.Access.TheVariants.{Implicit}
use Rattle.arch_defs.specs.declared.modes.Mode.{Mode}
use Rattle.arch_defs.specs.declared.registers.Virtual.{Virtual}
use Rattle.arch_defs.specs.declared.walks.Found.{Found}
use Rattle.arch_defs.specs.declared.walks.Found.TheVariants.{Passes, PageFaults, MissesEntry}
use Rattle.arch_defs.specs.declared.walks.MissingPlace.{MissingPlace}
use Rattle.arch_defs.specs.Consoles.{ConsoleState}
use Rattle.arch_defs.specs.Memory.{Memory, Mmu, SecondStage}
use Rattle.arch_defs.specs.Traps.{exception, faults_of, missing_place_fault}
use Rattle.arch_defs.specs.Translation.{first_stage}
use Rattle.arch_defs.specs.Widths.{bytes_in}
use Rattle.op_defs.specs.declared.ops.DataAccess.{DataAccess}
use Rattle.machine_defs.specs.Answers.{is_device_now, mmu_by_walk}
use Rattle.machine_defs.specs.Core.{Faults, Fails, Located, found_with, kind_of, located_at, located_by}
use Rattle.machine_defs.specs.DeviceSteps.{device_completed}
use Rattle.machine_defs.specs.HlvAccesses.{hlv_end, hlv_missed, hlv_mode, hlv_outcome}
use Rattle.two_stage_walk.specs.declared.translating.Place.TheVariants.{OnDevice}
use Rattle.two_stage_walk.specs.Answers.{placed, placed_if}
use Rattle.data_access.specs.Places.{place_or_page}
use Rattle.hlv_hsv.specs.Ends.{HlvState, hlv_left, hlv_state, served_from}

module _ (device : Bool) (memory : Memory) (state : Virtual) (console : ConsoleState) (wanted : DataAccess) (offset : ℕ) where
  abbrev mode : Mode
  mode = hlv_mode state.csrs

  abbrev kind : Access
  kind = kind_of wanted.purpose

  abbrev before : HlvState
  before = hlv_state state memory console

  abbrev through : Mmu
  through = mmu_by_walk memory state.csrs mode

  -- what it leaves is what the page makes of it
  abbrev Left : Located → Type 0
  Left l = placed device state.csrs memory l ≡ Ok (OnDevice offset)
      → hlv_left wanted before (hlv_end device memory state wanted l)
      ≡ served_from before (exception mode (faults_of kind).access wanted.address)
      (device_completed state console state.csrs.time offset wanted.width wanted.purpose)

  -- the place that there is not, of an access as this one
  abbrev unplaced : ℕ → Access → MissingPlace
  unplaced address of = record { address = address; kind = of; access = kind; va = wanted.address; mode = mode }

  missed : (missing : MissingPlace) (on : Bool) → placed_if state.csrs memory missing on ≡ Ok (OnDevice offset)
      → hlv_left wanted before (hlv_missed memory state.csrs missing on)
      ≡ served_from before (missing_place_fault missing) (device_completed state console state.csrs.time offset wanted.width wanted.purpose)
  missed missing true is = let same : missing.address % 4096 ≡ offset = cc in rw same refl
  missed missing false is = cc

  by_second : (address : ℕ) (place : Option ℕ) → Left (located_at mode wanted.address kind address place)
  by_second address (Some place) = λ is. cc
  by_second address None = missed (unplaced address kind) (is_device_now device state.csrs memory (unplaced address kind))

  by_first : (second : SecondStage) (found : Found) → Left (located_by second mode wanted.address kind found)
  by_first second (Passes address) = by_second address (second address kind)
  by_first second PageFaults = λ is. cc
  by_first second (MissesEntry place) = missed (unplaced place Implicit) (is_device_now device state.csrs memory (unplaced place Implicit))

  pub on_page : (computed : Mode) → computed ≡ mode
      → place_or_page device memory state.csrs computed wanted.address wanted.width kind ≡ Ok (OnDevice offset)
      → hlv_left wanted before (hlv_outcome device memory state wanted)
      ≡ served_from before (exception mode (faults_of kind).access wanted.address)
      (device_completed state console state.csrs.time offset wanted.width wanted.purpose)
  on_page computed same is =
      by (wanted.address % bytes_in wanted.width == 0)
      (subst (λ m. place_or_page device memory state.csrs m wanted.address wanted.width kind ≡ Ok (OnDevice offset)) same is)
    where
      by : (aligned : Bool)
          → Left (cond aligned (located_by through.second mode wanted.address kind (found_with (through.known wanted.address kind) (first_stage through.second through.reading state.csrs mode wanted.address kind)))
          (Fails (Faults (exception mode (faults_of kind).misaligned wanted.address))))
      by true = by_first through.second _
      by false = λ is. cc
