-- Widths of accesses, and values extended to 64 bits.
use Rattle.std.specs.Prelude.{ℕ, ◌%◌, ◌^◌, Bool, true, false}
use Rattle.arch_defs.specs.declared.widths.Width.{Width}
use Rattle.arch_defs.specs.declared.widths.Width.TheVariants.{Byte, Half, Word, Double}
use Rattle.arch_defs.specs.Bits.{sign_extend}

abbrev pub bytes_in : Width → ℕ
bytes_in Byte = 1
bytes_in Half = 2
bytes_in Word = 4
bytes_in Double = 8

-- a number of n bits, extended by its sign or by zeros
abbrev pub extended_from : ℕ → Bool → ℕ → ℕ
extended_from n true value = sign_extend n value
extended_from n false value = value

-- the low bytes of a value, extended by their sign or by zeros (Unprivileged ISA 20191213, 2.6 and 5.3)
abbrev pub extended : Width → Bool → ℕ → ℕ
extended Byte signed value = extended_from 8 signed (value % 2 ^ 8)
extended Half signed value = extended_from 16 signed (value % 2 ^ 16)
extended Word signed value = extended_from 32 signed (value % 2 ^ 32)
extended Double signed value = value
