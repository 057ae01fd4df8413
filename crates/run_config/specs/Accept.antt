-- Which bytes are a configuration, and of what: the tests in their order, and the first fault.
use Rattle.std.specs.Prelude.{◌≡◌, ℤ, ℕ, suc, pos, nat_eq, nat_le, ◌&&◌, List, [], ◌∷◌, length, map, Option, Some, None, is_some, unwrap_or, option_map, if◌then◌else◌}
use Rattle.std.specs.Prelude.{Result, Ok, Err}
use Rattle.std.specs.Str.{is_utf8}
use Rattle.toml.specs.Data.{Items, no_items, item, Members, no_members, as_array, as_integer}
use Rattle.toml.specs.Parse.{parse_document}
use Rattle.run_config.specs.declared.keys.ConfigKey.TheVariants as key
use Rattle.run_config.specs.declared.faults.ConfigFault.{ConfigFault}
use Rattle.run_config.specs.Faults as fault
use Rattle.run_config.specs.declared.formats.Format.{Format}
use Rattle.run_config.specs.declared.formats.Format.TheVariants.{One, Two}
use Rattle.run_config.specs.declared.guests.GuestSettings.{GuestSettings}
use Rattle.run_config.specs.declared.schedules.Schedule.{Schedule}
use Rattle.run_config.specs.Configurations.{Configuration, IsWithinLimits}
use Rattle.run_config.specs.Guests.{guests_fault, settings_of}
use Rattle.run_config.specs.Tables.{document_options, document_keys}
use Rattle.run_config.specs.Tests.{unless, first_fault, absent_fault, wrong_among}
use Rattle.run_config.specs.Turns.{schedule_at, schedule_fault, turns_of}
use Rattle.run_config.specs.Values.{◌>>=◌, passes_if, value_at, natural, natural_at, has_only, tables_of}

-- the document that the bytes spell: none where they are no UTF-8, or not TOML
unfoldable pub tree_of : List ℕ → Option Members
tree_of bytes = do
  _ ← passes_if (is_utf8 bytes)
  parse_document bytes

-- how many items an array has
unfoldable pub count_of : Items → ℕ
count_of no_items = 0
count_of (item value rest) = suc (count_of rest)

-- how many items the array of guests has, where there is an array
unfoldable pub array_length : Members → Option ℤ
array_length document = option_map (λ items. pos (count_of items)) (value_at key.Guest document >>= as_array)

-- the tables of the guests: an array of 1 to 16 tables (own)
unfoldable pub guests_at : Members → Option (List Members)
guests_at document = do
  value ← value_at key.Guest document
  items ← as_array value
  guests ← tables_of items
  _ ← passes_if (nat_le 1 (length guests) && nat_le (length guests) 16)
  Some guests

-- the same, and no table where it is something else
unfoldable pub guests_in : Members → List Members
guests_in document = unwrap_or (guests_at document) []

-- the format of a number (own)
unfoldable pub format_of : ℕ → Option Format
format_of number = if nat_eq number 1 then Some One else if nat_eq number 2 then Some Two else None

-- the format of a document, which must say it
unfoldable pub format_at : Members → Option Format
format_at document = value_at key.Format document >>= as_integer >>= natural >>= format_of

-- the same, and format 1 where it says none
unfoldable pub format_in : Members → Format
format_in document = unwrap_or (format_at document) One

-- the settings of the guests, and their weights
unfoldable pub settings_in : Members → List GuestSettings
settings_in document = map (settings_of (format_in document)) (guests_in document)

abbrev pub weights_of : List GuestSettings → List ℕ
weights_of guests = map (λ g. g.weight) guests

-- how many spare blocks there are, which format 1 does not know: none where the key is absent (own)
unfoldable pub spare_at : Format → Members → ℕ
spare_at One document = 0
spare_at Two document = natural_at key.Spare document

-- how the turns of the guests are said
unfoldable pub schedule_in : Members → Option Schedule
schedule_in document = schedule_at (length (guests_in document)) document

-- the first fault of a document that is found with no memory: by `format`, and where there is no `guest`
-- (own)
unfoldable pub head_fault : Members → Option ConfigFault
head_fault document =
    first_fault
    (unless (is_some (format_at document)) fault.format ∷ absent_fault None document key.Guest ∷ [])

-- the first of the faults that are found after these (own)
unfoldable pub body_fault : Members → Option ConfigFault
body_fault document = first_fault (
    unless (is_some (guests_at document)) (fault.range None key.Guest (array_length document))
    ∷ wrong_among None document (document_options (format_in document))
    ∷ guests_fault (format_in document) [] (guests_in document)
    ∷ unless (is_some (schedule_in document)) fault.turns
    ∷ unless (has_only (document_keys (format_in document)) document) (fault.extra None)
    ∷ (schedule_in document >>= schedule_fault (weights_of (settings_in document)))
    ∷ [])

-- the first fault of a document
unfoldable pub document_fault : Members → Option ConfigFault
document_fault document = first_fault (head_fault document ∷ body_fault document ∷ [])

-- what a document without a fault says
unfoldable pub configuration_of : Members → Configuration
configuration_of document = record {
  guests = settings_in document;
  turns = unwrap_or (option_map (turns_of (weights_of (settings_in document))) (schedule_in document)) [];
  spare = spare_at (format_in document) document;
}

-- the document that the bytes spell, and the empty one where they spell none
unfoldable pub document_of : List ℕ → Members
document_of bytes = unwrap_or (tree_of bytes) no_members

-- the first fault of the bytes (own)
unfoldable pub configuration_fault : List ℕ → Option ConfigFault
configuration_fault bytes = first_fault (
    unless (nat_le (length bytes) 65536) fault.too_long
    ∷ unless (is_some (tree_of bytes)) fault.not_toml
    ∷ document_fault (document_of bytes)
    ∷ [])

-- the configuration, unless there is a fault
abbrev pub unless_fault : Option ConfigFault → Configuration → Result Configuration ConfigFault
unless_fault None configuration = Ok configuration
unless_fault (Some found) configuration = Err found

-- what the bytes are: a configuration, or the first fault
unfoldable pub accept : List ℕ → Result Configuration ConfigFault
accept bytes = unless_fault (configuration_fault bytes) (configuration_of (document_of bytes))

-- each accepted configuration is within its limits
abbrev pub AcceptedIsWithinLimits : Type 0
AcceptedIsWithinLimits = (bytes : List ℕ) (c : Configuration) → accept bytes ≡ Ok c → IsWithinLimits c
