-- When the fields of an op fit its format, so that a word has it (Unprivileged ISA 20191213, 2.3, 2.4, 5.2, 8
-- and 9.1; Privileged Architecture 20211203, 8.3).
use Rattle.std.specs.Prelude.{ℕ, ◌-◌, ◌%◌, ◌^◌, Bool, true, false, ◌==◌, ◌&&◌, ◌||◌, nat_lt, nat_le}
use Rattle.arch_defs.specs.declared.widths.Width.{Width}
use Rattle.arch_defs.specs.declared.widths.Width.TheVariants as width
use Rattle.op_defs.specs.declared.ops.AluOp.{AluOp}
use Rattle.op_defs.specs.declared.ops.AluOp.TheVariants as alu
use Rattle.op_defs.specs.declared.ops.WordOp.{WordOp}
use Rattle.op_defs.specs.declared.ops.WordOp.TheVariants as word_op
use Rattle.op_defs.specs.declared.ops.CsrSource.{CsrSource}
use Rattle.op_defs.specs.declared.ops.CsrSource.TheVariants as source
use Rattle.op_defs.specs.declared.ops.Op.{Op}
use Rattle.op_defs.specs.declared.ops.Op.TheVariants as op

-- a number of 64 bits that is, read as signed, at least -2 ^ (n - 1) and below 2 ^ (n - 1)
abbrev pub in_range : ℕ → ℕ → Bool
in_range n x = nat_lt x (2 ^ (n - 1)) || nat_le (2 ^ 64 - 2 ^ (n - 1)) x && nat_lt x (2 ^ 64)

-- the same, and a multiple of another number
abbrev pub in_steps : ℕ → ℕ → ℕ → Bool
in_steps n step x = in_range n x && x % step == 0

-- AMO, LR and SC have these widths alone
unfoldable pub is_atomic_width : Width → Bool
is_atomic_width width.Byte = false
is_atomic_width width.Half = false
is_atomic_width width.Word = true
is_atomic_width width.Double = true

-- each width is loaded with sign extension; a doubleword leaves nothing to extend by zeros
unfoldable pub has_load : Width → Bool → Bool
has_load w true = true
has_load width.Double false = false
has_load w false = true

-- HLVX.HU and HLVX.WU
unfoldable pub has_guest_fetch : Width → Bool
has_guest_fetch width.Byte = false
has_guest_fetch width.Half = true
has_guest_fetch width.Word = true
has_guest_fetch width.Double = false

-- OP-IMM: the ops that it has, and 12 bits, or the amount of a shift
unfoldable pub alu_immediate_fits : AluOp → ℕ → Bool
alu_immediate_fits alu.Add x = in_range 12 x
alu_immediate_fits alu.Slt x = in_range 12 x
alu_immediate_fits alu.Sltu x = in_range 12 x
alu_immediate_fits alu.Xor x = in_range 12 x
alu_immediate_fits alu.Or x = in_range 12 x
alu_immediate_fits alu.And x = in_range 12 x
alu_immediate_fits alu.Sll x = nat_lt x 64
alu_immediate_fits alu.Srl x = nat_lt x 64
alu_immediate_fits alu.Sra x = nat_lt x 64
alu_immediate_fits o x = false

-- OP-IMM-32
unfoldable pub word_immediate_fits : WordOp → ℕ → Bool
word_immediate_fits word_op.Add x = in_range 12 x
word_immediate_fits word_op.Sll x = nat_lt x 32
word_immediate_fits word_op.Srl x = nat_lt x 32
word_immediate_fits word_op.Sra x = nat_lt x 32
word_immediate_fits o x = false

unfoldable pub source_fits : CsrSource → Bool
source_fits (source.Register rs1) = true
source_fits (source.Immediate x) = nat_lt x 32

unfoldable pub fits : Op → Bool
fits (op.Lui rd immediate) = in_steps 32 4096 immediate
fits (op.Auipc rd immediate) = in_steps 32 4096 immediate
fits (op.Jal rd offset) = in_steps 21 2 offset
fits (op.Jalr rd rs1 offset) = in_range 12 offset
fits (op.Branch t rs1 rs2 offset) = in_steps 13 2 offset
fits (op.Load w signed rd rs1 offset) = has_load w signed && in_range 12 offset
fits (op.Store w rs1 rs2 offset) = in_range 12 offset
fits (op.AluImmediate o rd rs1 immediate) = alu_immediate_fits o immediate
fits (op.WordImmediate o rd rs1 immediate) = word_immediate_fits o immediate
fits (op.LoadReserved w rd rs1) = is_atomic_width w
fits (op.StoreConditional w rd rs1 rs2) = is_atomic_width w
fits (op.Amo o w rd rs1 rs2) = is_atomic_width w
fits (op.Csr o from rd number) = source_fits from && nat_lt number 4096
fits (op.GuestLoad w signed rd rs1) = has_load w signed
fits (op.GuestFetch w rd rs1) = has_guest_fetch w
fits other = true
