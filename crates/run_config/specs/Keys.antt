-- The names of the keys.
use Rattle.std.specs.Prelude.{ℕ, List, codes}
use Rattle.run_config.specs.declared.keys.ConfigKey.{ConfigKey}
use Rattle.run_config.specs.declared.keys.ConfigKey.TheVariants as key

-- a key as it is written (own)
unfoldable pub name_of : ConfigKey → List ℕ
name_of key.Format = codes "format"
name_of key.Guest = codes "guest"
name_of key.Turns = codes "turns"
name_of key.Quantum = codes "quantum"
name_of key.Rounds = codes "rounds"
name_of key.Spare = codes "spare"
name_of key.Name = codes "name"
name_of key.Image = codes "image"
name_of key.Blocks = codes "blocks"
name_of key.Spaces = codes "spaces"
name_of key.Entries = codes "entries"
name_of key.Console = codes "console"
name_of key.Weight = codes "weight"
name_of key.Device = codes "device"
name_of key.Input = codes "input"
name_of key.Resume = codes "resume"
