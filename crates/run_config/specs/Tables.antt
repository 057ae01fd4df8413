-- The tables of the configuration: which keys there are, and what the value of each may be.
use Rattle.std.specs.Prelude.{Bool, true, false, List, [], ◌∷◌, ◌++◌, map}
use Rattle.guest_settings.specs.Limits.{least_entries, most_blocks, most_console, most_entries, most_spaces}
use Rattle.run_config.specs.declared.formats.Format.{Format}
use Rattle.run_config.specs.declared.formats.Format.TheVariants.{One, Two}
use Rattle.run_config.specs.declared.keys.ConfigKey.{ConfigKey}
use Rattle.run_config.specs.declared.keys.ConfigKey.TheVariants as key
use Rattle.run_config.specs.declared.rows.Kind.{Kind}
use Rattle.run_config.specs.declared.rows.Kind.TheVariants.{Own, AnyText, TextOf, IntegerOf}
use Rattle.run_config.specs.declared.rows.Row.{Row}

-- a key, and what its value may be: what tests of its own say, any text, a text of at least and at most that
-- many bytes, or an integer from the one on and at most the other
abbrev pub row : ConfigKey → Kind → Row
row k kind = record { key = k; kind = kind }

-- the keys that a fresh guest must have, one that begins at its start, in their order, with what the value of
-- each may be (own)
abbrev pub fresh_table : List Row
fresh_table = row key.Name AnyText
    ∷ row key.Image (TextOf 1 255)
    ∷ row key.Blocks (IntegerOf 1 most_blocks)
    ∷ row key.Spaces (IntegerOf 1 most_spaces)
    ∷ row key.Entries (IntegerOf least_entries most_entries)
    ∷ row key.Console (IntegerOf 0 most_console)
    ∷ []

-- the same of a resumed guest, one that goes on from a file (own)
abbrev pub resumed_table : List Row
resumed_table = row key.Name AnyText ∷ row key.Resume (TextOf 1 255) ∷ []

-- the same of a guest, by whether it is resumed
abbrev pub guest_table : Bool → List Row
guest_table true = resumed_table
guest_table false = fresh_table

-- the keys that a guest may have after these, by whether it is resumed: the file of a resumed one tells
-- whether it has the device page, and its inputs (own)
abbrev pub optional_table : Bool → Format → List Row
optional_table true One = []
optional_table true Two = row key.Weight (IntegerOf 1 1000) ∷ []
optional_table false One = row key.Input Own ∷ []
optional_table false Two =
    row key.Weight (IntegerOf 1 1000) ∷ row key.Device (IntegerOf 0 1) ∷ row key.Input Own ∷ []

-- all keys that a guest may have, by whether it is resumed
abbrev pub guest_keys : Bool → Format → List ConfigKey
guest_keys resumed format = map (λ row. row.key) (guest_table resumed ++ optional_table resumed format)

-- the keys with tests of their own that the document may have (own)
abbrev pub document_table : List Row
document_table = row key.Format Own
    ∷ row key.Guest Own
    ∷ row key.Turns Own
    ∷ row key.Quantum Own
    ∷ row key.Rounds Own
    ∷ []

-- the others (own)
abbrev pub document_options : Format → List Row
document_options One = []
document_options Two = row key.Spare (IntegerOf 0 most_blocks) ∷ []

-- all keys that the document may have
abbrev pub document_keys : Format → List ConfigKey
document_keys format = map (λ row. row.key) (document_table ++ document_options format)
