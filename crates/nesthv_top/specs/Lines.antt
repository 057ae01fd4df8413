-- The lines that tell of a status.
use Rattle.std.specs.Prelude.{ℕ, ℤ, List, [], ◌++◌, Option, Some, None, codes, decimal}
use Rattle.std.specs.Fmt.{signed_decimal}
use Rattle.run_config.specs.declared.faults.ConfigFault.{ConfigFault}
use Rattle.run_config.specs.declared.keys.ConfigKey.{ConfigKey}
use Rattle.run_config.specs.Keys.{name_of}

abbrev pub usage_line : List ℕ
usage_line = codes "nesthv: usage: run CONFIG | replay CONFIG REPORT | check CONFIG | work SEED SIZE"
    ++ codes " | save CONFIG GUEST\n"

-- what a fault keeps
abbrev pub guest_text : Option ℕ → List ℕ
guest_text None = []
guest_text (Some guest) = codes " guest " ++ decimal guest

abbrev pub key_text : Option ConfigKey → List ℕ
key_text None = []
key_text (Some key) = codes " key " ++ name_of key

abbrev pub value_text : Option ℤ → List ℕ
value_text None = []
value_text (Some value) = codes " value " ++ signed_decimal value

-- the configuration has this fault
unfoldable pub configuration_line : ConfigFault → List ℕ
configuration_line found = codes "nesthv: configuration fault " ++ decimal found.number
    ++ guest_text found.guest ++ key_text found.key ++ value_text found.value
    ++ codes "\n"

-- the read of this number failed
abbrev pub read_line : ℕ → List ℕ
read_line n = codes "nesthv: read fault " ++ decimal n ++ codes "\n"

abbrev pub write_line : List ℕ
write_line = codes "nesthv: write fault\n"

abbrev pub memory_line : List ℕ
memory_line = codes "nesthv: out of memory\n"
