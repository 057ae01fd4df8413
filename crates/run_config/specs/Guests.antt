-- The tests of the guests, and their settings.
use Rattle.std.specs.Prelude.{ℕ, ◌^◌, ◌-◌, nat_eq, nat_le, Bool, true, false, not, ◌&&◌, List, [], ◌∷◌, ◌++◌, length, bytes_eq, Option, Some, None, is_some, unwrap_or, option_map}
use Rattle.std.specs.List.{list_any}
use Rattle.toml.specs.Data.{Data, Members, as_array}
use Rattle.guest_settings.specs.Limits.{most_inputs}
use Rattle.run_config.specs.declared.keys.ConfigKey.TheVariants as key
use Rattle.run_config.specs.declared.faults.ConfigFault.{ConfigFault}
use Rattle.run_config.specs.Faults as fault
use Rattle.run_config.specs.declared.formats.Format.{Format}
use Rattle.run_config.specs.declared.formats.Format.TheVariants.{One, Two}
use Rattle.run_config.specs.declared.guests.FreshGuest.{FreshGuest}
use Rattle.run_config.specs.declared.guests.GuestSettings.{GuestSettings}
use Rattle.run_config.specs.declared.guests.InputSource.{InputSource}
use Rattle.run_config.specs.declared.guests.InputSource.TheVariants.{Pairs, File}
use Rattle.run_config.specs.declared.guests.Origin.{Origin}
use Rattle.run_config.specs.declared.guests.Origin.TheVariants.{Fresh, Saved}
use Rattle.run_config.specs.Tables.{guest_table, optional_table, guest_keys}
use Rattle.run_config.specs.Tests.{unless, first_fault, absent_among, wrong_among}
use Rattle.run_config.specs.Values.{◌>>=◌, passes_if, value_at, text_at, text_within, natural_at, natural_or, is_name, has_only, pairs_within}

-- the first number of each pair is at least that of the pair before, and that of the first pair at least this
unfoldable pub rise_from : ℕ → List (ℕ × ℕ) → Bool
rise_from least [] = true
rise_from least (pair ∷ rest) = nat_le least pair.0 && rise_from pair.0 rest

-- inputs: pairs of a moment and a byte, the moments not falling (own)
unfoldable pub inputs_in : Data → Option (List (ℕ × ℕ))
inputs_in value = do
  items ← as_array value
  inputs ← pairs_within (2 ^ 62 - 1) 255 items
  _ ← passes_if (nat_le (length inputs) most_inputs && rise_from 0 inputs)
  Some inputs

-- whether a guest is resumed, which format 1 does not know: whether it has the key (own)
unfoldable pub is_resumed : Format → Members → Bool
is_resumed One guest = false
is_resumed Two guest = is_some (value_at key.Resume guest)

-- where inputs come from: pairs in format 1, the file of a name of 1 to 255 bytes in format 2 (own)
unfoldable pub source_in : Format → Data → Option InputSource
source_in One value = option_map Pairs (inputs_in value)
source_in Two value = option_map File (text_within 1 255 value)

-- where the inputs of a guest come from: it has none where the key is absent
abbrev pub optional_source : Format → Option Data → Option InputSource
optional_source format None = Some (Pairs [])
optional_source format (Some value) = source_in format value

unfoldable pub input_at : Format → Members → Option InputSource
input_at format guest = optional_source format (value_at key.Input guest)

-- whether the inputs of a guest are as they must be: those of a resumed one are in its file
unfoldable pub has_inputs : Bool → Format → Members → Bool
has_inputs true format guest = true
has_inputs false format guest = is_some (input_at format guest)

-- the weight of a guest, which format 1 does not know: 1 where the key is absent (own)
unfoldable pub weight_at : Format → Members → ℕ
weight_at One guest = 1
weight_at Two guest = natural_or 1 key.Weight guest

-- whether a fresh guest has the device page, which format 1 does not know: not where the key is absent (own)
unfoldable pub device_at : Format → Members → Bool
device_at One guest = false
device_at Two guest = nat_eq (natural_at key.Device guest) 1

-- a name in its form, that no guest before has
unfoldable pub is_new_name : List (List ℕ) → List ℕ → Bool
is_new_name names name = is_name name && not (list_any (bytes_eq name) names)

-- the fault of the first key that is absent, in the order of the table
unfoldable pub absent_key : Bool → ℕ → Members → Option ConfigFault
absent_key resumed number guest = absent_among (Some number) guest (guest_table resumed)

-- the fault of the first value that is not of its kind: of the keys that a guest must have, and of those that
-- it may have after them
unfoldable pub wrong_value : Bool → ℕ → Members → Option ConfigFault
wrong_value resumed number guest = wrong_among (Some number) guest (guest_table resumed)

unfoldable pub wrong_option : Bool → Format → ℕ → Members → Option ConfigFault
wrong_option resumed format number guest = wrong_among (Some number) guest (optional_table resumed format)

-- the tests of a guest in their order, by whether it is resumed, after guests of these names (own)
unfoldable pub guest_tests : Bool → Format → List (List ℕ) → Members → List (Option ConfigFault)
guest_tests resumed format names guest =
    absent_key resumed (length names) guest
    ∷ wrong_value resumed (length names) guest
    ∷ wrong_option resumed format (length names) guest
    ∷ unless (is_new_name names (text_at key.Name guest)) (fault.name (length names))
    ∷ unless (has_inputs resumed format guest) (fault.input (length names))
    ∷ unless (has_only (guest_keys resumed format) guest) (fault.extra (Some (length names)))
    ∷ []

-- the first fault of a guest
unfoldable pub guest_fault : Format → List (List ℕ) → Members → Option ConfigFault
guest_fault format names guest = first_fault (guest_tests (is_resumed format guest) format names guest)

-- the first fault of guests, in their order, after guests of these names
unfoldable pub guests_fault : Format → List (List ℕ) → List Members → Option ConfigFault
guests_fault format names [] = None
guests_fault format names (guest ∷ rest) = first_fault (
    guest_fault format names guest
    ∷ guests_fault format (names ++ text_at key.Name guest ∷ []) rest
    ∷ [])

-- what the table of a fresh guest that has no fault says, whose inputs come from there
unfoldable pub fresh_of : Format → InputSource → Members → FreshGuest
fresh_of format input guest = record {
  image = text_at key.Image guest;
  blocks = natural_at key.Blocks guest;
  spaces = natural_at key.Spaces guest;
  entries = natural_at key.Entries guest;
  console = natural_at key.Console guest;
  device = device_at format guest;
  input = input;
}

-- how a guest begins that has no fault, by whether it is resumed
unfoldable pub origin_of : Bool → Format → Members → Origin
origin_of true format guest = Saved (text_at key.Resume guest)
origin_of false format guest = Fresh (fresh_of format (unwrap_or (input_at format guest) (Pairs [])) guest)

-- the settings of a guest that has no fault, by whether it is resumed
unfoldable pub settings_by : Bool → Format → Members → GuestSettings
settings_by resumed format guest = record {
  name = text_at key.Name guest;
  weight = weight_at format guest;
  origin = origin_of resumed format guest;
}

unfoldable pub settings_of : Format → Members → GuestSettings
settings_of format guest = settings_by (is_resumed format guest) format guest
