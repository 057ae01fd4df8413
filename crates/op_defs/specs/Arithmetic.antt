-- The numbers of arithmetic and of atomic memory operations: 64 bits, some read as signed
-- (Unprivileged ISA 20191213, 2.4, 5.2, 7 and 8.4).
use Rattle.std.specs.Prelude.{ℕ, ℤ, pos, ◌+◌, ◌-◌, ◌*◌, ◌/◌, ◌%◌, ◌^◌, ◌*ℤ◌, Bool, true, false, ◌==◌, nat_lt, int_lt, int_div, int_rem, bit_and, bit_or, bit_xor, if◌then◌else◌}
use Rattle.std.specs.Int.{w64, w128, cast_signed, cast_unsigned}
use Rattle.arch_defs.specs.declared.widths.Width.{Width}
use Rattle.arch_defs.specs.Bits.{add64, sign_extend}
use Rattle.arch_defs.specs.Widths.{extended}
use Rattle.op_defs.specs.declared.ops.AluOp.{AluOp}
use Rattle.op_defs.specs.declared.ops.AluOp.TheVariants as op
use Rattle.op_defs.specs.declared.ops.WordOp.{WordOp}
use Rattle.op_defs.specs.declared.ops.WordOp.TheVariants as word_op
use Rattle.op_defs.specs.declared.ops.AmoOp.{AmoOp}
use Rattle.op_defs.specs.declared.ops.AmoOp.TheVariants as amo_op

-- the number that 64 bits are, read as signed
abbrev pub signed : ℕ → ℤ
signed a = cast_signed w64 a

abbrev pub one_if : Bool → ℕ
one_if true = 1
one_if false = 0

-- the upper 64 of the 128 bits of a product
abbrev pub high_half : ℤ → ℕ
high_half z = cast_unsigned w128 z / 2 ^ 64

-- a shift to the right that repeats the sign
abbrev pub shifted_right : ℕ → ℕ → ℕ
shifted_right a by = if nat_lt a (2 ^ 63) then a / 2 ^ by else 2 ^ 64 - 1 - (2 ^ 64 - 1 - a) / 2 ^ by

-- division: by zero all ones; the overflow gives the dividend (7.2)
abbrev pub quotient : ℕ → ℕ → ℕ
quotient a b = if b == 0 then 2 ^ 64 - 1 else cast_unsigned w64 (int_div (signed a) (signed b))

-- remainder: by zero the dividend; at the overflow 0
abbrev pub remainder : ℕ → ℕ → ℕ
remainder a b = if b == 0 then a else cast_unsigned w64 (int_rem (signed a) (signed b))

unfoldable pub alu : AluOp → ℕ → ℕ → ℕ
alu op.Add a b = add64 a b
alu op.Sub a b = (a + (2 ^ 64 - b)) % 2 ^ 64
alu op.Sll a b = a * 2 ^ (b % 64) % 2 ^ 64
alu op.Slt a b = one_if (int_lt (signed a) (signed b))
alu op.Sltu a b = one_if (nat_lt a b)
alu op.Xor a b = bit_xor a b
alu op.Srl a b = a / 2 ^ (b % 64)
alu op.Sra a b = shifted_right a (b % 64)
alu op.Or a b = bit_or a b
alu op.And a b = bit_and a b
alu op.Mul a b = a * b % 2 ^ 64
alu op.Mulh a b = high_half (signed a *ℤ signed b)
alu op.Mulhsu a b = high_half (signed a *ℤ pos b)
alu op.Mulhu a b = a * b / 2 ^ 64
alu op.Div a b = quotient a b
alu op.Divu a b = if b == 0 then 2 ^ 64 - 1 else a / b
alu op.Rem a b = remainder a b
alu op.Remu a b = if b == 0 then a else a % b

-- the low 32 bits, sign extended, and zero extended
abbrev pub word : ℕ → ℕ
word a = sign_extend 32 (a % 2 ^ 32)

abbrev pub low : ℕ → ℕ
low a = a % 2 ^ 32

-- arithmetic on the low 32 bits
unfoldable pub word_alu : WordOp → ℕ → ℕ → ℕ
word_alu word_op.Add a b = word (a + b)
word_alu word_op.Sub a b = word (a + (2 ^ 64 - b))
word_alu word_op.Sll a b = word (low a * 2 ^ (b % 32))
word_alu word_op.Srl a b = word (low a / 2 ^ (b % 32))
word_alu word_op.Sra a b = shifted_right (word a) (b % 32)
word_alu word_op.Mul a b = word (a * b)
word_alu word_op.Div a b = word (quotient (word a) (word b))
word_alu word_op.Divu a b = if low b == 0 then 2 ^ 64 - 1 else word (low a / low b)
word_alu word_op.Rem a b = word (remainder (word a) (word b))
word_alu word_op.Remu a b = if low b == 0 then word a else word (low a % low b)

-- what an atomic memory operation makes of two numbers of 64 bits
unfoldable pub amo_of : AmoOp → ℕ → ℕ → ℕ
amo_of amo_op.Swap old b = b
amo_of amo_op.Add old b = add64 old b
amo_of amo_op.Xor old b = bit_xor old b
amo_of amo_op.And old b = bit_and old b
amo_of amo_op.Or old b = bit_or old b
amo_of amo_op.Min old b = if int_lt (signed old) (signed b) then old else b
amo_of amo_op.Max old b = if int_lt (signed old) (signed b) then b else old
amo_of amo_op.Minu old b = if nat_lt old b then old else b
amo_of amo_op.Maxu old b = if nat_lt old b then b else old

-- and of the old value in memory and an operand, of which it sees the low bytes of its width, sign extended
abbrev pub amo : AmoOp → Width → ℕ → ℕ → ℕ
amo op width old b = amo_of op (extended width true old) (extended width true b)
