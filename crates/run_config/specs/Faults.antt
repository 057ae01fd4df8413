-- The faults of a configuration: the number of each, and the guest, the key and the value that it keeps.
use Rattle.std.specs.Prelude.{ℕ, ℤ, pos, Option, Some, None}
use Rattle.run_config.specs.declared.keys.ConfigKey.{ConfigKey}
use Rattle.run_config.specs.declared.faults.ConfigFault.{ConfigFault}

-- a fault of this number that keeps a guest, or nothing, and neither a key nor a value
abbrev pub fault_of : ℕ → Option ℕ → ConfigFault
fault_of number guest = record { number = number; guest = guest; key = None; value = None }

-- the bytes are not a TOML document (own)
unfoldable pub not_toml : ConfigFault
not_toml = fault_of 1 None

-- `format` is absent, or neither the integer 1 nor 2 (own)
unfoldable pub format : ConfigFault
format = fault_of 2 None

-- a key is absent that must be there: in this guest, or in the document (own)
unfoldable pub missing : Option ℕ → ConfigKey → ConfigFault
missing guest key = record { number = 3; guest = guest; key = Some key; value = None }

-- the value of a key is not of its kind or not in its range: the integer that it is, if it is one, and of a
-- wrong array of guests the length (own)
unfoldable pub range : Option ℕ → ConfigKey → Option ℤ → ConfigFault
range guest key value = record { number = 4; guest = guest; key = Some key; value = value }

-- the name of a guest is not in its form, or a guest before has it (own)
unfoldable pub name : ℕ → ConfigFault
name guest = fault_of 5 (Some guest)

-- the turns are said in neither form or in both, or a value of them is wrong (own)
unfoldable pub turns : ConfigFault
turns = fault_of 6 None

-- the inputs of a guest are neither pairs nor the name of a file, as its format wants (own)
unfoldable pub input : ℕ → ConfigFault
input guest = fault_of 7 (Some guest)

-- a guest, or the document, has a key that there is not (own)
unfoldable pub extra : Option ℕ → ConfigFault
extra guest = fault_of 8 guest

-- there are more than 65,536 bytes (own)
unfoldable pub too_long : ConfigFault
too_long = fault_of 9 None

-- the image of a guest is longer than its RAM: how many bytes of it were read (own)
unfoldable pub image_long : ℕ → ℕ → ConfigFault
image_long guest bytes = record { number = 10; guest = Some guest; key = None; value = Some (pos bytes) }

-- the guests and the spare blocks need more frames than machine memory has: that many (own)
unfoldable pub frames : ℕ → ConfigFault
frames sum = record { number = 11; guest = None; key = None; value = Some (pos sum) }

-- a guest's file of inputs has a bad record: the number of the first one (own)
unfoldable pub input_file : ℕ → ℕ → ConfigFault
input_file guest number = record { number = 12; guest = Some guest; key = None; value = Some (pos number) }

-- the weight of a guest times the quantum is more than 2^32: that much (own)
unfoldable pub weight : ℕ → ℕ → ConfigFault
weight guest product = record { number = 13; guest = Some guest; key = None; value = Some (pos product) }

-- the file that a guest goes on from is not a saved guest (own)
unfoldable pub saved : ℕ → ConfigFault
saved guest = fault_of 14 (Some guest)

-- there is no guest of this number, which is to be saved (own)
unfoldable pub no_guest : ℕ → ConfigFault
no_guest number = record { number = 15; guest = None; key = None; value = Some (pos number) }
