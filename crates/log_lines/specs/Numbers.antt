-- Numbers in the log, as `nesthv-look` shows them (own).
use Rattle.std.specs.Prelude.{ℕ, false, ◌-◌, ◌==◌, List, ◌++◌, codes, length, replicate, if◌then◌else◌}
use Rattle.std.specs.Fmt.{digits}

-- hexadecimal digits, small letters: without leading zeros, and with zeros in front up to a width
abbrev pub hex_text : ℕ → List ℕ
hex_text n = digits 16 false n

abbrev pub wide_hex : ℕ → ℕ → List ℕ
wide_hex width n = replicate (width - length (hex_text n)) 48 ++ hex_text n

-- the address of a page or a frame of this number
abbrev pub address_text : ℕ → List ℕ
address_text page = if page == 0 then codes "0" else hex_text page ++ codes "000"
