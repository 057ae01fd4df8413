-- The word of an instruction: the sum of the fields of its format (Unprivileged ISA 20191213, 2.2, 2.3 and
-- 24; Privileged Architecture 20211203, 9 and 8.3).
use Rattle.std.specs.Prelude.{ℕ, ◌+◌, ◌*◌, ◌^◌, Bool, true, false, if◌then◌else◌}
use Rattle.arch_defs.specs.Bits.{field}
use Rattle.arch_defs.specs.declared.widths.Width.{Width}
use Rattle.arch_defs.specs.declared.widths.Width.TheVariants as width
use Rattle.op_defs.specs.declared.ops.AluOp.{AluOp}
use Rattle.op_defs.specs.declared.ops.AluOp.TheVariants as alu
use Rattle.op_defs.specs.declared.ops.WordOp.{WordOp}
use Rattle.op_defs.specs.declared.ops.WordOp.TheVariants as word_op
use Rattle.op_defs.specs.declared.ops.AmoOp.{AmoOp}
use Rattle.op_defs.specs.declared.ops.AmoOp.TheVariants as amo
use Rattle.op_defs.specs.declared.ops.Test.{Test}
use Rattle.op_defs.specs.declared.ops.Test.TheVariants as test
use Rattle.op_defs.specs.declared.ops.CsrOp.{CsrOp}
use Rattle.op_defs.specs.declared.ops.CsrOp.TheVariants as csr
use Rattle.op_defs.specs.declared.ops.CsrSource.{CsrSource}
use Rattle.op_defs.specs.declared.ops.CsrSource.TheVariants as source
use Rattle.op_defs.specs.declared.ops.Op.{Op}
use Rattle.op_defs.specs.declared.ops.Op.TheVariants as op

-- the formats; an immediate is given whole, and its low bits go where the format has them

unfoldable pub r_word : ℕ → ℕ → ℕ → ℕ → ℕ → ℕ → ℕ
r_word opcode rd funct3 rs1 rs2 funct7 =
    opcode + rd * 2 ^ 7 + funct3 * 2 ^ 12 + rs1 * 2 ^ 15 + rs2 * 2 ^ 20 + funct7 * 2 ^ 25

unfoldable pub i_word : ℕ → ℕ → ℕ → ℕ → ℕ → ℕ
i_word opcode rd funct3 rs1 immediate =
    opcode + rd * 2 ^ 7 + funct3 * 2 ^ 12 + rs1 * 2 ^ 15 + field 0 12 immediate * 2 ^ 20

unfoldable pub s_word : ℕ → ℕ → ℕ → ℕ → ℕ → ℕ
s_word opcode funct3 rs1 rs2 immediate =
    opcode + field 0 5 immediate * 2 ^ 7 + funct3 * 2 ^ 12 + rs1 * 2 ^ 15 + rs2 * 2 ^ 20
    + field 5 7 immediate * 2 ^ 25

unfoldable pub b_word : ℕ → ℕ → ℕ → ℕ → ℕ → ℕ
b_word opcode funct3 rs1 rs2 immediate =
    opcode + field 11 1 immediate * 2 ^ 7 + field 1 4 immediate * 2 ^ 8 + funct3 * 2 ^ 12 + rs1 * 2 ^ 15
    + rs2 * 2 ^ 20 + field 5 6 immediate * 2 ^ 25 + field 12 1 immediate * 2 ^ 31

unfoldable pub u_word : ℕ → ℕ → ℕ → ℕ
u_word opcode rd immediate = opcode + rd * 2 ^ 7 + field 12 20 immediate * 2 ^ 12

unfoldable pub j_word : ℕ → ℕ → ℕ → ℕ
j_word opcode rd immediate =
    opcode + rd * 2 ^ 7 + field 12 8 immediate * 2 ^ 12 + field 11 1 immediate * 2 ^ 20
    + field 1 10 immediate * 2 ^ 21 + field 20 1 immediate * 2 ^ 31

-- funct3 and funct7 of the groups

unfoldable pub test_funct3 : Test → ℕ
test_funct3 test.Eq = 0b000
test_funct3 test.Ne = 0b001
test_funct3 test.Lt = 0b100
test_funct3 test.Ge = 0b101
test_funct3 test.Ltu = 0b110
test_funct3 test.Geu = 0b111

-- the binary logarithm of a width in bytes
unfoldable pub width_code : Width → ℕ
width_code width.Byte = 0
width_code width.Half = 1
width_code width.Word = 2
width_code width.Double = 3

unfoldable pub load_funct3 : Width → Bool → ℕ
load_funct3 w true = width_code w
load_funct3 w false = width_code w + 0b100

unfoldable pub alu_funct3 : AluOp → ℕ
alu_funct3 alu.Add = 0b000
alu_funct3 alu.Sub = 0b000
alu_funct3 alu.Sll = 0b001
alu_funct3 alu.Slt = 0b010
alu_funct3 alu.Sltu = 0b011
alu_funct3 alu.Xor = 0b100
alu_funct3 alu.Srl = 0b101
alu_funct3 alu.Sra = 0b101
alu_funct3 alu.Or = 0b110
alu_funct3 alu.And = 0b111
alu_funct3 alu.Mul = 0b000
alu_funct3 alu.Mulh = 0b001
alu_funct3 alu.Mulhsu = 0b010
alu_funct3 alu.Mulhu = 0b011
alu_funct3 alu.Div = 0b100
alu_funct3 alu.Divu = 0b101
alu_funct3 alu.Rem = 0b110
alu_funct3 alu.Remu = 0b111

unfoldable pub alu_funct7 : AluOp → ℕ
alu_funct7 alu.Add = 0b0000000
alu_funct7 alu.Sub = 0b0100000
alu_funct7 alu.Sll = 0b0000000
alu_funct7 alu.Slt = 0b0000000
alu_funct7 alu.Sltu = 0b0000000
alu_funct7 alu.Xor = 0b0000000
alu_funct7 alu.Srl = 0b0000000
alu_funct7 alu.Sra = 0b0100000
alu_funct7 alu.Or = 0b0000000
alu_funct7 alu.And = 0b0000000
alu_funct7 alu.Mul = 0b0000001
alu_funct7 alu.Mulh = 0b0000001
alu_funct7 alu.Mulhsu = 0b0000001
alu_funct7 alu.Mulhu = 0b0000001
alu_funct7 alu.Div = 0b0000001
alu_funct7 alu.Divu = 0b0000001
alu_funct7 alu.Rem = 0b0000001
alu_funct7 alu.Remu = 0b0000001

-- the op on 64 bits that has the funct3 and the funct7 of an op on words
unfoldable pub counterpart : WordOp → AluOp
counterpart word_op.Add = alu.Add
counterpart word_op.Sub = alu.Sub
counterpart word_op.Sll = alu.Sll
counterpart word_op.Srl = alu.Srl
counterpart word_op.Sra = alu.Sra
counterpart word_op.Mul = alu.Mul
counterpart word_op.Div = alu.Div
counterpart word_op.Divu = alu.Divu
counterpart word_op.Rem = alu.Rem
counterpart word_op.Remu = alu.Remu

-- whether an op is a shift, whose immediate is an amount
unfoldable pub is_shift : AluOp → Bool
is_shift alu.Sll = true
is_shift alu.Srl = true
is_shift alu.Sra = true
is_shift o = false

-- OP and OP-32
unfoldable pub register_word : ℕ → AluOp → ℕ → ℕ → ℕ → ℕ
register_word opcode o rd rs1 rs2 = r_word opcode rd (alu_funct3 o) rs1 rs2 (alu_funct7 o)

-- OP-IMM and OP-IMM-32: the amount of a shift stands where rs2 does, six bits of it on 64 bits
unfoldable pub immediate_word : ℕ → AluOp → ℕ → ℕ → ℕ → ℕ
immediate_word opcode o rd rs1 immediate = if is_shift o then register_word opcode o rd rs1 immediate
    else i_word opcode rd (alu_funct3 o) rs1 immediate

-- aq and rl clear
unfoldable pub amo_funct7 : AmoOp → ℕ
amo_funct7 amo.Swap = 0b0000100
amo_funct7 amo.Add = 0b0000000
amo_funct7 amo.Xor = 0b0010000
amo_funct7 amo.And = 0b0110000
amo_funct7 amo.Or = 0b0100000
amo_funct7 amo.Min = 0b1000000
amo_funct7 amo.Max = 0b1010000
amo_funct7 amo.Minu = 0b1100000
amo_funct7 amo.Maxu = 0b1110000

unfoldable pub csr_code : CsrOp → ℕ
csr_code csr.Write = 0b01
csr_code csr.Set = 0b10
csr_code csr.Clear = 0b11

unfoldable pub csr_word : CsrOp → CsrSource → ℕ → ℕ → ℕ
csr_word o (source.Register rs1) rd number = i_word 0b1110011 rd (csr_code o) rs1 number
csr_word o (source.Immediate immediate) rd number = i_word 0b1110011 rd (csr_code o + 0b100) immediate number

-- HLV.B is 0 of rs2, HLV.BU is 1
unfoldable pub guest_load_rs2 : Bool → ℕ
guest_load_rs2 true = 0
guest_load_rs2 false = 1

-- the word of each op; FENCE orders all with all, and FENCE.I has no other fields
unfoldable pub encoded : Op → ℕ
encoded (op.Lui rd immediate) = u_word 0b0110111 rd immediate
encoded (op.Auipc rd immediate) = u_word 0b0010111 rd immediate
encoded (op.Jal rd offset) = j_word 0b1101111 rd offset
encoded (op.Jalr rd rs1 offset) = i_word 0b1100111 rd 0b000 rs1 offset
encoded (op.Branch t rs1 rs2 offset) = b_word 0b1100011 (test_funct3 t) rs1 rs2 offset
encoded (op.Load w signed rd rs1 offset) = i_word 0b0000011 rd (load_funct3 w signed) rs1 offset
encoded (op.Store w rs1 rs2 offset) = s_word 0b0100011 (width_code w) rs1 rs2 offset
encoded (op.AluImmediate o rd rs1 immediate) = immediate_word 0b0010011 o rd rs1 immediate
encoded (op.Alu o rd rs1 rs2) = register_word 0b0110011 o rd rs1 rs2
encoded (op.WordImmediate o rd rs1 immediate) = immediate_word 0b0011011 (counterpart o) rd rs1 immediate
encoded (op.Word o rd rs1 rs2) = register_word 0b0111011 (counterpart o) rd rs1 rs2
encoded op.Fence = 0x0FF0000F
encoded op.FenceI = 0x0000100F
encoded (op.LoadReserved w rd rs1) = r_word 0b0101111 rd (width_code w) rs1 0 0b0001000
encoded (op.StoreConditional w rd rs1 rs2) = r_word 0b0101111 rd (width_code w) rs1 rs2 0b0001100
encoded (op.Amo o w rd rs1 rs2) = r_word 0b0101111 rd (width_code w) rs1 rs2 (amo_funct7 o)
encoded op.Ecall = 0x00000073
encoded op.Ebreak = 0x00100073
encoded op.Sret = 0x10200073
encoded op.Wfi = 0x10500073
encoded (op.Csr o from rd number) = csr_word o from rd number
encoded (op.SfenceVma rs1 rs2) = r_word 0b1110011 0 0b000 rs1 rs2 0b0001001
encoded (op.HfenceVvma rs1 rs2) = r_word 0b1110011 0 0b000 rs1 rs2 0b0010001
encoded (op.HfenceGvma rs1 rs2) = r_word 0b1110011 0 0b000 rs1 rs2 0b0110001
encoded (op.GuestLoad w signed rd rs1) =
    r_word 0b1110011 rd 0b100 rs1 (guest_load_rs2 signed) (0b0110000 + width_code w * 2)
encoded (op.GuestFetch w rd rs1) = r_word 0b1110011 rd 0b100 rs1 3 (0b0110000 + width_code w * 2)
encoded (op.GuestStore w rs1 rs2) = r_word 0b1110011 0 0b100 rs1 rs2 (0b0110001 + width_code w * 2)
