-- What stands at a key of a TOML table, and which values are of a kind.
use Rattle.std.specs.Prelude.{ℕ, ℤ, pos, negsuc, nat_le, Bool, true, false, ◌&&◌, List, [], ◌∷◌, length, map, bytes_eq}
use Rattle.std.specs.Prelude.{Option, Some, None, is_some, option_and_then, unwrap_or}
use Rattle.std.specs.Char.{is_ascii_alphanumeric}
use Rattle.std.specs.List.{list_all, list_any}
use Rattle.std.specs.Option.{option_map_or}
use Rattle.toml.specs.Data.{Data, Items, no_items, item, Members, no_members, member}
use Rattle.toml.specs.Data.{get_member, as_integer, as_str, as_array, as_table}
use Rattle.run_config.specs.declared.keys.ConfigKey.{ConfigKey}
use Rattle.run_config.specs.Keys.{name_of}
use Rattle.run_config.specs.declared.rows.Kind.{Kind}
use Rattle.run_config.specs.declared.rows.Kind.TheVariants.{Own, AnyText, TextOf, IntegerOf}

-- the next step, where the one before it found a value
infixl 10 ◌>>=◌
abbrev pub ◌>>=◌ : {A B : Type 0} → Option A → (A → Option B) → Option B
found >>= next = option_and_then next found

-- a test as a step: it goes on exactly where the test holds
abbrev pub passes_if : Bool → Option (Unit {0})
passes_if true = Some tt
passes_if false = None

-- the value at a key
unfoldable pub value_at : ConfigKey → Members → Option Data
value_at key table = get_member (name_of key) table

-- an integer that is not negative, as a number
unfoldable pub natural : ℤ → Option ℕ
natural (pos n) = Some n
natural (negsuc n) = None

-- the number at least the one and at most the other that a value is
unfoldable pub number_within : ℕ → ℕ → Data → Option ℕ
number_within low high value = do
  integer ← as_integer value
  number ← natural integer
  _ ← passes_if (nat_le low number && nat_le number high)
  Some number

-- a text of at least and at most that many bytes
unfoldable pub has_length : ℕ → ℕ → List ℕ → Bool
has_length low high text = nat_le low (length text) && nat_le (length text) high

-- whether a value is of a kind: one that has tests of its own may be any
unfoldable pub is_of : Kind → Data → Bool
is_of Own value = true
is_of AnyText value = is_some (as_str value)
is_of (TextOf low high) value = option_map_or (has_length low high) (as_str value) false
is_of (IntegerOf low high) value = is_some (number_within low high value)

-- a text of at least and at most that many bytes, where a value is one
unfoldable pub text_within : ℕ → ℕ → Data → Option (List ℕ)
text_within low high value = do
  text ← as_str value
  _ ← passes_if (has_length low high text)
  Some text

-- the number at a key, and this one where there is none
unfoldable pub natural_or : ℕ → ConfigKey → Members → ℕ
natural_or absent key table = unwrap_or (value_at key table >>= as_integer >>= natural) absent

-- the text at a key, and the number: nothing and 0 where there is none
unfoldable pub text_at : ConfigKey → Members → List ℕ
text_at key table = unwrap_or (value_at key table >>= as_str) []

abbrev pub natural_at : ConfigKey → Members → ℕ
natural_at = natural_or 0

-- a name: 1 to 32 ASCII letters and digits (own)
unfoldable pub is_name : List ℕ → Bool
is_name text = has_length 1 32 text && list_all is_ascii_alphanumeric text

-- whether the table has no key beyond these
unfoldable pub has_only : List ConfigKey → Members → Bool
has_only keys no_members = true
has_only keys (member name value rest) = list_any (bytes_eq name) (map name_of keys) && has_only keys rest

-- the tables of an array: none where an item is not a table
unfoldable pub tables_of : Items → Option (List Members)
tables_of no_items = Some []
tables_of (item value rest) = do
  table ← as_table value
  tables ← tables_of rest
  Some (table ∷ tables)

-- the two items of an array that has just two
unfoldable pub two_items : Items → Option (Data × Data)
two_items (item first (item second no_items)) = Some (first, second)
two_items _ = None

-- an array of two integers from 0 on, each at most that much
unfoldable pub pair_within : ℕ → ℕ → Data → Option (ℕ × ℕ)
pair_within first_most second_most value = do
  items ← as_array value
  two ← two_items items
  first ← number_within 0 first_most two.0
  second ← number_within 0 second_most two.1
  Some (first, second)

-- such arrays, one after the other: none where an item is another value
unfoldable pub pairs_within : ℕ → ℕ → Items → Option (List (ℕ × ℕ))
pairs_within first_most second_most no_items = Some []
pairs_within first_most second_most (item value rest) = do
  pair ← pair_within first_most second_most value
  pairs ← pairs_within first_most second_most rest
  Some (pair ∷ pairs)
