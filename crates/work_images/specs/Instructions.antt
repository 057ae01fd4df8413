-- Instructions with their operands in an assembler's order (Unprivileged ISA 20191213, 24 and 25; Privileged
-- Architecture 20211203, 9). Registers are numbers. The offset of a branch or jump is left to its label.
use Rattle.std.specs.Prelude.{ℕ, true, false}
use Rattle.arch_defs.specs.declared.widths.Width.TheVariants as width
use Rattle.op_defs.specs.declared.ops.AluOp.TheVariants as alu
use Rattle.op_defs.specs.declared.ops.Test.TheVariants as test
use Rattle.op_defs.specs.declared.ops.CsrOp.TheVariants as csr
use Rattle.op_defs.specs.declared.ops.CsrSource.TheVariants as source
use Rattle.op_defs.specs.declared.ops.Op.{Op}
use Rattle.op_defs.specs.declared.ops.Op.TheVariants as op

abbrev pub auipc : ℕ → ℕ → Op
auipc rd immediate = op.Auipc rd immediate

abbrev pub lui : ℕ → ℕ → Op
lui rd immediate = op.Lui rd immediate

abbrev pub addi : ℕ → ℕ → ℕ → Op
addi rd rs1 immediate = op.AluImmediate alu.Add rd rs1 immediate

abbrev pub add : ℕ → ℕ → ℕ → Op
add rd rs1 rs2 = op.Alu alu.Add rd rs1 rs2

-- ld rd, offset(rs1)
abbrev pub ld : ℕ → ℕ → ℕ → Op
ld rd offset rs1 = op.Load width.Double true rd rs1 offset

-- lbu rd, offset(rs1)
abbrev pub lbu : ℕ → ℕ → ℕ → Op
lbu rd offset rs1 = op.Load width.Byte false rd rs1 offset

-- sd rs2, offset(rs1)
abbrev pub sd : ℕ → ℕ → ℕ → Op
sd rs2 offset rs1 = op.Store width.Double rs1 rs2 offset

abbrev pub csrrw : ℕ → ℕ → ℕ → Op
csrrw rd number rs1 = op.Csr csr.Write (source.Register rs1) rd number

abbrev pub csrrs : ℕ → ℕ → ℕ → Op
csrrs rd number rs1 = op.Csr csr.Set (source.Register rs1) rd number

abbrev pub beq : ℕ → ℕ → Op
beq rs1 rs2 = op.Branch test.Eq rs1 rs2 0

abbrev pub jal : ℕ → Op
jal rd = op.Jal rd 0

abbrev pub hfence_gvma : ℕ → ℕ → Op
hfence_gvma rs1 rs2 = op.HfenceGvma rs1 rs2

abbrev pub ecall : Op
ecall = op.Ecall

abbrev pub sret : Op
sret = op.Sret

-- the numbers of registers
abbrev pub sstatus : ℕ
sstatus = 0x100

abbrev pub stvec : ℕ
stvec = 0x105

abbrev pub sepc : ℕ
sepc = 0x141

abbrev pub scause : ℕ
scause = 0x142

abbrev pub vsatp : ℕ
vsatp = 0x280

abbrev pub hstatus : ℕ
hstatus = 0x600

abbrev pub hgatp : ℕ
hgatp = 0x680
