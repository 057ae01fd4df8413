-- The instruction table: the instruction that a word is, if it is one (Unprivileged ISA 20191213, 24;
-- Privileged Architecture 20211203, 9 and 8.3). A reserved word is none (own).
use Rattle.std.specs.Prelude.{ℕ, Bool, true, false, Option, Some, None, option_map, ◌==◌, if◌then◌else◌}
use Rattle.arch_defs.specs.declared.widths.Width.{Width}
use Rattle.arch_defs.specs.declared.widths.Width.TheVariants as width
use Rattle.arch_defs.specs.Bits.{field}
use Rattle.op_defs.specs.declared.ops.AluOp.{AluOp}
use Rattle.op_defs.specs.declared.ops.AluOp.TheVariants as alu
use Rattle.op_defs.specs.declared.ops.WordOp.{WordOp}
use Rattle.op_defs.specs.declared.ops.WordOp.TheVariants as word_op
use Rattle.op_defs.specs.declared.ops.AmoOp.{AmoOp}
use Rattle.op_defs.specs.declared.ops.AmoOp.TheVariants as amo
use Rattle.op_defs.specs.declared.ops.Test.{Test}
use Rattle.op_defs.specs.declared.ops.Test.TheVariants as test
use Rattle.op_defs.specs.declared.ops.CsrOp.{CsrOp}
use Rattle.op_defs.specs.declared.ops.CsrOp.TheVariants as csr
use Rattle.op_defs.specs.declared.ops.CsrSource.TheVariants as source
use Rattle.op_defs.specs.declared.ops.Op.{Op}
use Rattle.op_defs.specs.declared.ops.Op.TheVariants as op
use Rattle.op_defs.specs.Fields.{opcode, rd, rs1, rs2, funct3, funct7, i_immediate, s_immediate, b_immediate, u_immediate, j_immediate}

-- a width by the low two bits of funct3
unfoldable pub width_of : ℕ → Width
width_of f =
    if f == 0 then width.Byte else if f == 1 then width.Half else if f == 2 then width.Word else width.Double

-- BRANCH, by funct3:
--   imm[12|10:5] rs2 rs1 funct3 imm[4:1|11] 1100011    beq 000  bne 001  blt 100  bge 101  bltu 110  bgeu 111
unfoldable pub test_of : ℕ → Option Test
test_of f3 =
    if f3 == 0 then Some test.Eq else if f3 == 1 then Some test.Ne else if f3 == 4 then Some test.Lt
    else if f3 == 5 then Some test.Ge
    else if f3 == 6 then Some test.Ltu else if f3 == 7 then Some test.Geu else None

unfoldable pub branch_of : ℕ → Option Op
branch_of word =
    option_map (λ t. op.Branch t (rs1 word) (rs2 word) (b_immediate word)) (test_of (funct3 word))

-- LOAD: the width in the low two bits of funct3, and without sign extension by its high bit; there is no LDU:
--   imm[11:0] rs1 funct3 rd 0000011    lb 000  lh 001  lw 010  ld 011  lbu 100  lhu 101  lwu 110
unfoldable pub load_of : ℕ → Option Op
load_of word = if funct3 word == 7 then None
    else Some (op.Load (width_of (field 12 2 word)) (field 14 1 word == 0) (rd word) (rs1 word)
    (i_immediate word))

-- STORE: the width in funct3:
--   imm[11:5] rs2 rs1 funct3 imm[4:0] 0100011    sb 000  sh 001  sw 010  sd 011
unfoldable pub store_of : ℕ → Option Op
store_of word =
    if field 14 1 word == 0
    then Some (op.Store (width_of (field 12 2 word)) (rs1 word) (rs2 word) (s_immediate word))
    else None

-- OP-IMM without shifts, by funct3:
--   imm[11:0] rs1 funct3 rd 0010011    addi 000  slti 010  sltiu 011  xori 100  ori 110  andi 111
unfoldable pub immediate_op_of : ℕ → AluOp
immediate_op_of f3 =
    if f3 == 0 then alu.Add else if f3 == 2 then alu.Slt else if f3 == 3 then alu.Sltu
    else if f3 == 4 then alu.Xor
    else if f3 == 6 then alu.Or else alu.And

-- the shifts of OP-IMM, by funct3 and the six bits above the amount:
--   000000 shamt rs1 001 rd 0010011    slli
--   000000 shamt rs1 101 rd 0010011    srli
--   010000 shamt rs1 101 rd 0010011    srai
unfoldable pub shift_of : ℕ → ℕ → Option AluOp
shift_of f3 upper = if f3 == 1 then (if upper == 0 then Some alu.Sll else None)
    else if upper == 0 then Some alu.Srl else if upper == 0b010000 then Some alu.Sra else None

unfoldable pub immediate_arithmetic_of : ℕ → Option Op
immediate_arithmetic_of word = if field 12 2 word == 1
    then option_map (λ o. op.AluImmediate o (rd word) (rs1 word) (field 20 6 word))
    (shift_of (funct3 word) (field 26 6 word))
    else Some (op.AluImmediate (immediate_op_of (funct3 word)) (rd word) (rs1 word) (i_immediate word))

-- OP, by funct3, for funct7 0 and 1; of funct7 0100000 there are two:
--   0000000 rs2 rs1 funct3 rd 0110011    add 000  sll 001  slt 010  sltu 011  xor 100  srl 101  or 110
--                                        and 111
--   0100000 rs2 rs1 funct3 rd 0110011    sub 000  sra 101
--   0000001 rs2 rs1 funct3 rd 0110011    mul 000  mulh 001  mulhsu 010  mulhu 011  div 100  divu 101  rem 110
--                                        remu 111
unfoldable pub base_op_of : ℕ → AluOp
base_op_of f3 =
    if f3 == 0 then alu.Add else if f3 == 1 then alu.Sll else if f3 == 2 then alu.Slt
    else if f3 == 3 then alu.Sltu
    else if f3 == 4 then alu.Xor else if f3 == 5 then alu.Srl else if f3 == 6 then alu.Or else alu.And

unfoldable pub multiply_op_of : ℕ → AluOp
multiply_op_of f3 =
    if f3 == 0 then alu.Mul else if f3 == 1 then alu.Mulh else if f3 == 2 then alu.Mulhsu
    else if f3 == 3 then alu.Mulhu
    else if f3 == 4 then alu.Div else if f3 == 5 then alu.Divu else if f3 == 6 then alu.Rem else alu.Remu

unfoldable pub alu_op_of : ℕ → ℕ → Option AluOp
alu_op_of f7 f3 = if f7 == 0 then Some (base_op_of f3) else if f7 == 1 then Some (multiply_op_of f3)
    else if f7 == 0b0100000 then (if f3 == 0 then Some alu.Sub else if f3 == 5 then Some alu.Sra else None)
    else None

unfoldable pub register_arithmetic_of : ℕ → Option Op
register_arithmetic_of word =
    option_map (λ o. op.Alu o (rd word) (rs1 word) (rs2 word)) (alu_op_of (funct7 word) (funct3 word))

-- OP-IMM-32: ADDIW, and the shifts by funct7:
--   imm[11:0]     rs1 000 rd 0011011    addiw
--   0000000 shamt rs1 001 rd 0011011    slliw
--   0000000 shamt rs1 101 rd 0011011    srliw
--   0100000 shamt rs1 101 rd 0011011    sraiw
unfoldable pub word_shift_of : ℕ → ℕ → Option WordOp
word_shift_of f3 f7 = if f3 == 1 then (if f7 == 0 then Some word_op.Sll else None)
    else if f3 == 5
    then (if f7 == 0 then Some word_op.Srl else if f7 == 0b0100000 then Some word_op.Sra else None)
    else None

unfoldable pub word_immediate_arithmetic_of : ℕ → Option Op
word_immediate_arithmetic_of word =
    if funct3 word == 0 then Some (op.WordImmediate word_op.Add (rd word) (rs1 word) (i_immediate word))
    else option_map (λ o. op.WordImmediate o (rd word) (rs1 word) (rs2 word))
    (word_shift_of (funct3 word) (funct7 word))

-- OP-32, by funct7 and funct3:
--   0000000 rs2 rs1 funct3 rd 0111011    addw 000  sllw 001  srlw 101
--   0100000 rs2 rs1 funct3 rd 0111011    subw 000  sraw 101
--   0000001 rs2 rs1 funct3 rd 0111011    mulw 000  divw 100  divuw 101  remw 110  remuw 111
unfoldable pub base_word_op_of : ℕ → Option WordOp
base_word_op_of f3 =
    if f3 == 0 then Some word_op.Add else if f3 == 1 then Some word_op.Sll
    else if f3 == 5 then Some word_op.Srl else None

unfoldable pub multiply_word_op_of : ℕ → Option WordOp
multiply_word_op_of f3 =
    if f3 == 0 then Some word_op.Mul else if f3 == 4 then Some word_op.Div
    else if f3 == 5 then Some word_op.Divu
    else if f3 == 6 then Some word_op.Rem else if f3 == 7 then Some word_op.Remu else None

unfoldable pub word_op_of : ℕ → ℕ → Option WordOp
word_op_of f7 f3 = if f7 == 0 then base_word_op_of f3 else if f7 == 1 then multiply_word_op_of f3
    else if f7 == 0b0100000
    then (if f3 == 0 then Some word_op.Sub else if f3 == 5 then Some word_op.Sra else None)
    else None

unfoldable pub word_arithmetic_of : ℕ → Option Op
word_arithmetic_of word =
    option_map (λ o. op.Word o (rd word) (rs1 word) (rs2 word)) (word_op_of (funct7 word) (funct3 word))

-- MISC-MEM: FENCE and FENCE.I, whatever their other fields:
--   any[31:15] 000 any[11:7] 0001111    fence
--   any[31:15] 001 any[11:7] 0001111    fence.i
unfoldable pub fence_of : ℕ → Option Op
fence_of word = if funct3 word == 0 then Some op.Fence else if funct3 word == 1 then Some op.FenceI else None

-- AMO: funct3 2 or 3, and funct5; LR has no rs2; aq and rl say nothing to one hart (own):
--   funct5 aq rl rs2 rs1 010 rd 0101111    words
--   funct5 aq rl rs2 rs1 011 rd 0101111    doublewords
--   lr 00010 (rs2 00000)  sc 00011  amoswap 00001  amoadd 00000  amoxor 00100  amoand 01100  amoor 01000
--   amomin 10000  amomax 10100  amominu 11000  amomaxu 11100
unfoldable pub amo_op_of : ℕ → Option AmoOp
amo_op_of f5 =
    if f5 == 0b00001 then Some amo.Swap else if f5 == 0b00000 then Some amo.Add
    else if f5 == 0b00100 then Some amo.Xor
    else if f5 == 0b01100 then Some amo.And else if f5 == 0b01000 then Some amo.Or
    else if f5 == 0b10000 then Some amo.Min
    else if f5 == 0b10100 then Some amo.Max else if f5 == 0b11000 then Some amo.Minu
    else if f5 == 0b11100 then Some amo.Maxu else None

unfoldable pub atomic_by : ℕ → ℕ → Width → Option Op
atomic_by f5 word w =
    if f5 == 0b00010 then (if rs2 word == 0 then Some (op.LoadReserved w (rd word) (rs1 word)) else None)
    else if f5 == 0b00011 then Some (op.StoreConditional w (rd word) (rs1 word) (rs2 word))
    else option_map (λ o. op.Amo o w (rd word) (rs1 word) (rs2 word)) (amo_op_of f5)

unfoldable pub atomic_of : ℕ → Option Op
atomic_of word = if funct3 word == 2 then atomic_by (field 27 5 word) word width.Word
    else if funct3 word == 3 then atomic_by (field 27 5 word) word width.Double else None

-- SYSTEM with funct3 0: the single words, and the fences by funct7, which have no rd:
--   000000000000 00000 000 00000 1110011    ecall
--   000000000001 00000 000 00000 1110011    ebreak
--   000100000010 00000 000 00000 1110011    sret
--   000100000101 00000 000 00000 1110011    wfi
--   0001001 rs2  rs1   000 00000 1110011    sfence.vma
--   0010001 rs2  rs1   000 00000 1110011    hfence.vvma
--   0110001 rs2  rs1   000 00000 1110011    hfence.gvma
unfoldable pub fence_op_of : ℕ → Option Op
fence_op_of word = if funct7 word == 0b0001001 then Some (op.SfenceVma (rs1 word) (rs2 word))
    else if funct7 word == 0b0010001 then Some (op.HfenceVvma (rs1 word) (rs2 word))
    else if funct7 word == 0b0110001 then Some (op.HfenceGvma (rs1 word) (rs2 word)) else None

unfoldable pub system_op_of : ℕ → Option Op
system_op_of word = if word == 0x00000073 then Some op.Ecall else if word == 0x00100073 then Some op.Ebreak
    else if word == 0x10200073 then Some op.Sret else if word == 0x10500073 then Some op.Wfi
    else if rd word == 0 then fence_op_of word else None

-- SYSTEM with funct3 4: HLV, HLVX and HSV; the width in bits 26 and 27 of an even funct7 for loads, of an odd
-- one for stores:
--   0110000 00000 rs1 100 rd 1110011    hlv.b        0110000 00001 rs1 100 rd 1110011    hlv.bu
--   0110010 00000 rs1 100 rd 1110011    hlv.h        0110010 00001 rs1 100 rd 1110011    hlv.hu
--   0110010 00011 rs1 100 rd 1110011    hlvx.hu      0110100 00000 rs1 100 rd 1110011    hlv.w
--   0110100 00001 rs1 100 rd 1110011    hlv.wu       0110100 00011 rs1 100 rd 1110011    hlvx.wu
--   0110110 00000 rs1 100 rd 1110011    hlv.d
--   0110001 rs2 rs1 100 00000 1110011   hsv.b        0110011 rs2 rs1 100 00000 1110011   hsv.h
--   0110101 rs2 rs1 100 00000 1110011   hsv.w        0110111 rs2 rs1 100 00000 1110011   hsv.d
unfoldable pub guest_load_by : Width → ℕ → Option Op
guest_load_by w word = if rs2 word == 0 then Some (op.GuestLoad w true (rd word) (rs1 word))
    else if rs2 word == 1 then Some (op.GuestLoad w false (rd word) (rs1 word))
    else if rs2 word == 3 then Some (op.GuestFetch w (rd word) (rs1 word)) else None

unfoldable pub guest_load_of : ℕ → Option Op
guest_load_of word =
    if funct7 word == 0b0110000 then (if rs2 word == 3 then None else guest_load_by width.Byte word)
    else if funct7 word == 0b0110010 then guest_load_by width.Half word
    else if funct7 word == 0b0110100 then guest_load_by width.Word word
    else if funct7 word == 0b0110110 then (if rs2 word == 0 then guest_load_by width.Double word else None)
    else None

unfoldable pub guest_store_of : ℕ → Option Op
guest_store_of word = if funct7 word == 0b0110001 then Some (op.GuestStore width.Byte (rs1 word) (rs2 word))
    else if funct7 word == 0b0110011 then Some (op.GuestStore width.Half (rs1 word) (rs2 word))
    else if funct7 word == 0b0110101 then Some (op.GuestStore width.Word (rs1 word) (rs2 word))
    else if funct7 word == 0b0110111 then Some (op.GuestStore width.Double (rs1 word) (rs2 word)) else None

unfoldable pub guest_access_of : ℕ → Option Op
guest_access_of word =
    if field 25 1 word == 0 then guest_load_of word else if rd word == 0 then guest_store_of word else None

-- SYSTEM with another funct3: the instructions on control and status registers (Unprivileged ISA 20191213,
-- 9.1):
--   csr[11:0] rs1  funct3 rd 1110011    csrrw 001   csrrs 010   csrrc 011
--   csr[11:0] uimm funct3 rd 1110011    csrrwi 101  csrrsi 110  csrrci 111
unfoldable pub csr_op_of : ℕ → CsrOp
csr_op_of f = if f == 1 then csr.Write else if f == 2 then csr.Set else csr.Clear

unfoldable pub csr_of : ℕ → Op
csr_of word = if field 14 1 word == 0
    then op.Csr (csr_op_of (field 12 2 word)) (source.Register (rs1 word)) (rd word) (field 20 12 word)
    else op.Csr (csr_op_of (field 12 2 word)) (source.Immediate (rs1 word)) (rd word) (field 20 12 word)

unfoldable pub system_of : ℕ → Option Op
system_of word =
    if funct3 word == 0 then system_op_of word else if funct3 word == 4 then guest_access_of word
    else Some (csr_of word)

-- the table, by opcode:
--   imm[31:12] rd 0110111                       lui
--   imm[31:12] rd 0010111                       auipc
--   imm[20|10:1|11|19:12] rd 1101111            jal
--   imm[11:0] rs1 000 rd 1100111                jalr
unfoldable pub op_of : ℕ → Option Op
op_of word =
    if opcode word == 0b0110111 then Some (op.Lui (rd word) (u_immediate word))
    else if opcode word == 0b0010111 then Some (op.Auipc (rd word) (u_immediate word))
    else if opcode word == 0b1101111 then Some (op.Jal (rd word) (j_immediate word))
    else if opcode word == 0b1100111
    then (if funct3 word == 0 then Some (op.Jalr (rd word) (rs1 word) (i_immediate word)) else None)
    else if opcode word == 0b1100011 then branch_of word
    else if opcode word == 0b0000011 then load_of word
    else if opcode word == 0b0100011 then store_of word
    else if opcode word == 0b0010011 then immediate_arithmetic_of word
    else if opcode word == 0b0110011 then register_arithmetic_of word
    else if opcode word == 0b0011011 then word_immediate_arithmetic_of word
    else if opcode word == 0b0111011 then word_arithmetic_of word
    else if opcode word == 0b0001111 then fence_of word
    else if opcode word == 0b0101111 then atomic_of word
    else if opcode word == 0b1110011 then system_of word
    else None

-- whether a word is of opcode SYSTEM
unfoldable pub is_system : ℕ → Bool
is_system word = opcode word == 0b1110011
