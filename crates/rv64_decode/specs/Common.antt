-- The common words of the instruction table.
use Rattle.std.specs.Prelude.{ℕ, ◌≡◌, ◌+◌, ◌*◌, ◌/◌, ◌%◌, ◌<◌, Bool, not, Option, None, ◌==◌, ◌||◌, if◌then◌else◌}
use Rattle.op_defs.specs.declared.ops.Op.{Op}
use Rattle.arch_defs.specs.Bits.{field}
use Rattle.op_defs.specs.Fields.{funct3, opcode}
use Rattle.op_defs.specs.Table.{op_of}

-- whether an opcode is neither MISC-MEM nor AMO nor SYSTEM (own)
abbrev pub is_common : ℕ → Bool
is_common opcode = not (opcode == 0b0001111 || (opcode == 0b0101111 || opcode == 0b1110011))

-- the instruction that a word of such an opcode is, if it is one
unfoldable pub common_op_of : ℕ → Option Op
common_op_of word = if is_common (opcode word) then op_of word else None

-- The upper five bits of a word's opcode, above them its funct3, and above these its low two bits, as one
-- product has them (own): the low bits stand below the opcode's too, and may carry into them.
unfoldable pub spread_of : ℕ → ℕ
spread_of word = (field 2 5 word + 32 * field 12 3 word + 256 * field 0 2 word
    + (4 * field 2 5 word + 33 * field 0 2 word) / 128) % 1024

-- What the index of a word, spread_of the word after it, tells (own): opcode and funct3, if it ends in 11.
-- The word after it ends in 00 then, and the index of any other word is 0, or 256 or more.
pub record IsIndex (index word : ℕ) : Type 0 where
  pub common : word % 4 ≡ 3 → field 2 5 word < 31 → index ≡ field 2 5 word + 1 + 32 * funct3 word
  pub low : index < 256 → 0 < index % 32 → word % 4 ≡ 3
  pub upper : index < 256 → 0 < index % 32 → field 2 5 word < 31
