-- Tests in their order, and the first fault that they find.
use Rattle.std.specs.Prelude.{ℕ, Bool, true, false, List, [], ◌∷◌, map, Option, Some, None, is_some}
use Rattle.toml.specs.Data.{Data, Members, as_integer}
use Rattle.run_config.specs.declared.keys.ConfigKey.{ConfigKey}
use Rattle.run_config.specs.declared.faults.ConfigFault.{ConfigFault}
use Rattle.run_config.specs.Faults as fault
use Rattle.run_config.specs.declared.rows.Row.{Row}
use Rattle.run_config.specs.Values.{◌>>=◌, value_at, is_of}

-- the fault, unless the test is passed
abbrev pub unless : Bool → ConfigFault → Option ConfigFault
unless true found = None
unless false found = Some found

-- the first fault of these tests
abbrev pub first_fault : List (Option ConfigFault) → Option ConfigFault
first_fault [] = None
first_fault (None ∷ tests) = first_fault tests
first_fault (Some found ∷ tests) = Some found

-- the key must be there: in a guest's table, or in the document where no guest is named
unfoldable pub absent_fault : Option ℕ → Members → ConfigKey → Option ConfigFault
absent_fault guest table key = unless (is_some (value_at key table)) (fault.missing guest key)

-- a value must be of the kind that its row of the table says
unfoldable pub wrong_kind : Option ℕ → Row → Data → Option ConfigFault
wrong_kind guest row value = unless (is_of row.kind value) (fault.range guest row.key (as_integer value))

-- the same of the value at the key of a row, where there is one
unfoldable pub out_of_range : Option ℕ → Members → Row → Option ConfigFault
out_of_range guest table row = value_at row.key table >>= wrong_kind guest row

-- the fault of the first key of these rows that is absent
abbrev pub absent_among : Option ℕ → Members → List Row → Option ConfigFault
absent_among guest table rows = first_fault (map (λ row. absent_fault guest table row.key) rows)

-- the fault of the first value of these rows that is not of its kind
abbrev pub wrong_among : Option ℕ → Members → List Row → Option ConfigFault
wrong_among guest table rows = first_fault (map (out_of_range guest table) rows)
