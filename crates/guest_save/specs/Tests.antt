-- What reading gives by itself, and what is tested beside it.
use Rattle.std.specs.Prelude.{ℕ, Bool, ◌≡◌, ◌+◌, ◌%◌, ◌<◌, ◌≤◌, ◌^◌, true, Option, length, slice_index}
use Rattle.std.specs.List.{All, AllPairs}
use Rattle.std.specs.List.Sorted.{IsNonDecreasingBy}
use Rattle.arch_defs.specs.CachedEntries.{HasOtherPage}
use Rattle.arch_defs.specs.CsrBits.{guest_root_of, hgatp_bits}
use Rattle.arch_defs.specs.Memory.{ram_base}
use Rattle.arch_defs.specs.Roots.{is_table}
use Rattle.arch_defs.specs.Spaces.{Space}
use Rattle.arch_defs.specs.WalkedEntries.{folds}
use Rattle.guest_save.specs.Savable.{HasOtherKey, IsSavableEntry}
use Rattle.guest_settings.specs.Limits.{most_inputs}
use Rattle.machine_defs.specs.Machine.{Machine, Platform, with_pending_lines}
use Rattle.run_laws.specs.FirstKeys.{AreStorable}
use Rattle.instruction_laws.specs.FrontSpaces.{FrontIs}
use Rattle.instruction_laws.specs.Renaming.{ReservesWithin}
use Rattle.run_laws.specs.Reservations.{places_from}
use Rattle.run_laws.specs.StorableStates.{ReservesAligned, stored_form}

-- a machine that bytes give, whatever they are: x0 is 0, registers, keys and what first-stage translations
-- are for are as they can be stored, and the bits that the clock and the console set are as these have them
pub record IsRead (m : Machine) : Type 0 where
  pub x0 : slice_index m.platform.virt.regs.x 0 ≡ 0
  pub csrs : stored_form m.platform.virt.csrs ≡ m.platform.virt.csrs
  pub lines : with_pending_lines m.platform ≡ m.platform
  pub inputs : length m.platform.console.inputs ≤ most_inputs
  pub keys : All (λ s. guest_root_of (hgatp_bits s.key) ≡ s.key) m.spaces
  pub storable : AreStorable m.platform.virt.first

-- what is reserved, if anything is, lies aligned in RAM of this size
pub record IsReserved (reservation : Option (ℕ × ℕ)) (size : ℕ) : Type 0 where
  pub aligned : ReservesAligned reservation
  pub inside : ReservesWithin (places_from ram_base size) reservation

-- a space can be saved whose key was read
pub record IsSoundSpace (size room : ℕ) (device : Bool) (s : Space) : Type 0 where
  pub table : is_table s.key ≡ true
  pub few : length s.entries ≤ room
  pub entries : All (IsSavableEntry s.key size device) s.entries
  pub pages : AllPairs HasOtherPage s.entries

-- progress, console and inputs of a platform that was read
pub record IsSoundPlatform (p : Platform) : Type 0 where
  pub pc : p.virt.regs.pc % 4 ≡ 0
  pub steps : p.steps ≤ 2 ^ 60
  pub clock : p.clock.time ≤ 2 ^ 62 + p.steps
  pub console : length p.console.bytes ≤ p.console.room
  pub moments : All (λ input. input.0 < 2 ^ 62) p.console.inputs
  pub order : IsNonDecreasingBy (λ input. input.0) p.console.inputs

-- reservation and spaces of a machine that was read, whose RAM has this size
pub record HasSoundSpaces (size : ℕ) (m : Machine) : Type 0 where
  pub reservation : IsReserved m.platform.virt.reservation size
  pub few : length m.spaces ≤ m.space_room
  pub spaces : All (IsSoundSpace size m.entry_room m.device) m.spaces
  pub keys : AllPairs HasOtherKey m.spaces
  pub front : folds m.platform.virt ≡ true → FrontIs m.platform.virt.csrs.hgatp m.spaces
