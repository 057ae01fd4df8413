-- What a configuration says, and within which limits.
use Rattle.std.specs.Prelude.{ℕ, ◌<◌, ◌≤◌, ◌^◌, List, length}
use Rattle.std.specs.List.{All}
use Rattle.guest_settings.specs.Inputs.{AreInputs}
use Rattle.guest_settings.specs.Limits.{least_entries, most_blocks, most_console, most_entries, most_guests, most_spaces}
use Rattle.run_config.specs.declared.guests.FreshGuest.{FreshGuest}
use Rattle.run_config.specs.declared.guests.GuestSettings.{GuestSettings}
use Rattle.run_config.specs.declared.guests.InputSource.{InputSource}
use Rattle.run_config.specs.declared.guests.InputSource.TheVariants.{Pairs, File}
use Rattle.run_config.specs.declared.guests.Origin.{Origin}
use Rattle.run_config.specs.declared.guests.Origin.TheVariants.{Fresh, Saved}

-- the guests in their order, the turns, which are pairs of a guest's number and a number of steps, and how
-- many spare blocks there are
pub record Configuration : Type 0 where
  pub guests : List GuestSettings
  pub turns : List (ℕ × ℕ)
  pub spare : ℕ

-- what a guest may be given: what a console may be given, each input a byte
pub record AreByteInputs (pairs : List (ℕ × ℕ)) : Type 0 where
  pub inputs : AreInputs pairs
  pub bytes : All (λ input. input.1 < 256) pairs

-- what holds of where inputs come from: they may be given, or the file has a name
abbrev pub IsSourceWithin : InputSource → Type 0
IsSourceWithin (Pairs inputs) = AreByteInputs inputs
IsSourceWithin (File name) = (1 ≤ length name) × (length name ≤ 255)

-- what holds of a fresh guest
pub record IsFreshWithin (g : FreshGuest) : Type 0 where
  pub image_some : 1 ≤ length g.image
  pub image_most : length g.image ≤ 255
  pub blocks_some : 1 ≤ g.blocks
  pub blocks_most : g.blocks ≤ most_blocks
  pub spaces_some : 1 ≤ g.spaces
  pub spaces_most : g.spaces ≤ most_spaces
  pub entries_least : least_entries ≤ g.entries
  pub entries_most : g.entries ≤ most_entries
  pub console_most : g.console ≤ most_console
  pub input : IsSourceWithin g.input

-- what holds of how a guest begins: the file of a saved one has a name
abbrev pub IsOriginWithin : Origin → Type 0
IsOriginWithin (Fresh g) = IsFreshWithin g
IsOriginWithin (Saved name) = (1 ≤ length name) × (length name ≤ 255)

-- what holds of the settings of each guest that is accepted
pub record IsGuestWithin (g : GuestSettings) : Type 0 where
  pub name_some : 1 ≤ length g.name
  pub name_most : length g.name ≤ 32
  pub weight_some : 1 ≤ g.weight
  pub weight_most : g.weight ≤ 1000
  pub origin : IsOriginWithin g.origin

-- a turn of one of that many guests, of at most 2^32 steps
pub record IsTurnWithin (guests : ℕ) (turn : ℕ × ℕ) : Type 0 where
  pub guest : turn.0 < guests
  pub steps : turn.1 ≤ 2 ^ 32

-- what holds of each configuration that is accepted
pub record IsWithinLimits (c : Configuration) : Type 0 where
  pub guests_some : 1 ≤ length c.guests
  pub guests_most : length c.guests ≤ most_guests
  pub each_guest : All IsGuestWithin c.guests
  pub turns_most : length c.turns ≤ 2 ^ 20
  pub each_turn : All (IsTurnWithin (length c.guests)) c.turns
  pub spare_most : c.spare ≤ most_blocks
