-- Each group of the instruction table, at a word whose fields are those of an op.
use Rattle.std.proofs.Common.{◌≡◌, ℕ, ◌+◌, ◌*◌, ◌/◌, ◌%◌, ◌<◌, Some, Bool, true, false, refl, ◌∙◌, arith}
use Rattle.arch_defs.specs.Bits.{field}
use Rattle.arch_defs.specs.declared.widths.Width.{Width}
use Rattle.arch_defs.specs.declared.widths.Width.TheVariants as width
use Rattle.op_defs.specs.declared.ops.AluOp.{AluOp}
use Rattle.op_defs.specs.declared.ops.AluOp.TheVariants as alu
use Rattle.op_defs.specs.declared.ops.WordOp.{WordOp}
use Rattle.op_defs.specs.declared.ops.WordOp.TheVariants as word_op
use Rattle.op_defs.specs.declared.ops.AmoOp.{AmoOp}
use Rattle.op_defs.specs.declared.ops.AmoOp.TheVariants as amo
use Rattle.op_defs.specs.declared.ops.Test.{Test}
use Rattle.op_defs.specs.declared.ops.Test.TheVariants as test
use Rattle.op_defs.specs.declared.ops.CsrOp.{CsrOp}
use Rattle.op_defs.specs.declared.ops.CsrOp.TheVariants as csr
use Rattle.op_defs.specs.declared.ops.CsrSource.TheVariants as source
use Rattle.op_defs.specs.declared.ops.Op.TheVariants as op
use Rattle.op_defs.specs.Fields.{opcode, rd, rs1, rs2, funct3, funct7, i_immediate, s_immediate, b_immediate, u_immediate, j_immediate}
use Rattle.op_defs.specs.Table.{op_of, branch_of, test_of, load_of, store_of, width_of, immediate_arithmetic_of, immediate_op_of, shift_of, register_arithmetic_of, alu_op_of, base_op_of, multiply_op_of, word_immediate_arithmetic_of, word_shift_of, word_op_of, base_word_op_of, multiply_word_op_of, fence_of, atomic_of, atomic_by, amo_op_of, system_of, system_op_of, fence_op_of, guest_access_of, guest_load_of, guest_load_by, guest_store_of, csr_of, csr_op_of}
use Rattle.op_defs.specs.Table as table
use Rattle.rv64_asm.specs.Words.{test_funct3, width_code, load_funct3, alu_funct3, alu_funct7, counterpart, is_shift, amo_funct7, csr_code, guest_load_rs2}
use Rattle.rv64_asm.specs.Fitting.{has_load, has_guest_fetch, is_atomic_width, alu_immediate_fits, word_immediate_fits}
use Rattle.std.proofs.lemmas.Bool.{false≢true, ne_eqb}

-- by opcode

pub at_lui : (w : ℕ) → opcode w ≡ 0b0110111 → op_of w ≡ Some (op.Lui (rd w) (u_immediate w))
unfolding op_of
at_lui w h = simp h

pub at_auipc : (w : ℕ) → opcode w ≡ 0b0010111 → op_of w ≡ Some (op.Auipc (rd w) (u_immediate w))
unfolding op_of
at_auipc w h = simp h

pub at_jal : (w : ℕ) → opcode w ≡ 0b1101111 → op_of w ≡ Some (op.Jal (rd w) (j_immediate w))
unfolding op_of
at_jal w h = simp h

pub at_jalr : (w : ℕ) → opcode w ≡ 0b1100111 → funct3 w ≡ 0 → op_of w ≡ Some (op.Jalr (rd w) (rs1 w) (i_immediate w))
unfolding op_of
at_jalr w h k = simp (h, k)

pub at_branch : (w : ℕ) → opcode w ≡ 0b1100011 → op_of w ≡ branch_of w
unfolding op_of
at_branch w h = simp h

pub at_load : (w : ℕ) → opcode w ≡ 0b0000011 → op_of w ≡ load_of w
unfolding op_of
at_load w h = simp h

pub at_store : (w : ℕ) → opcode w ≡ 0b0100011 → op_of w ≡ store_of w
unfolding op_of
at_store w h = simp h

pub at_immediate : (w : ℕ) → opcode w ≡ 0b0010011 → op_of w ≡ immediate_arithmetic_of w
unfolding op_of
at_immediate w h = simp h

pub at_register : (w : ℕ) → opcode w ≡ 0b0110011 → op_of w ≡ register_arithmetic_of w
unfolding op_of
at_register w h = simp h

pub at_word_immediate : (w : ℕ) → opcode w ≡ 0b0011011 → op_of w ≡ word_immediate_arithmetic_of w
unfolding op_of
at_word_immediate w h = simp h

pub at_word : (w : ℕ) → opcode w ≡ 0b0111011 → op_of w ≡ table.word_arithmetic_of w
unfolding op_of
at_word w h = simp h

pub at_atomic : (w : ℕ) → opcode w ≡ 0b0101111 → op_of w ≡ atomic_of w
unfolding op_of
at_atomic w h = simp h

pub at_system : (w : ℕ) → opcode w ≡ 0b1110011 → op_of w ≡ system_of w
unfolding op_of
at_system w h = simp h

-- BRANCH

test_back : (t : Test) → test_of (test_funct3 t) ≡ Some t
unfolding test_of test_funct3
test_back test.Eq = refl
test_back test.Ne = refl
test_back test.Lt = refl
test_back test.Ge = refl
test_back test.Ltu = refl
test_back test.Geu = refl

pub branch_back : (w a b x : ℕ) (t : Test) → funct3 w ≡ test_funct3 t → rs1 w ≡ a → rs2 w ≡ b → b_immediate w ≡ x
    → branch_of w ≡ Some (op.Branch t a b x)
unfolding branch_of
branch_back w a b x t e f g i = simp (e, f, g, i, test_back t)

-- parts of funct3 and funct7

pub low_two : (w f : ℕ) → funct3 w ≡ f → field 12 2 w ≡ f % 4
low_two w f e = omega arith

pub high_one : (w f : ℕ) → funct3 w ≡ f → field 14 1 w ≡ f / 4
high_one w f e = omega arith

pub high_five : (w f : ℕ) → funct7 w ≡ f → field 27 5 w ≡ f / 4
high_five w f e = omega arith

pub low_one : (w f : ℕ) → funct7 w ≡ f → field 25 1 w ≡ f % 2
low_one w f e = omega arith

-- LOAD and STORE

pub load_back : (w a b x : ℕ) (s : Width) (signed : Bool) → has_load s signed ≡ true → funct3 w ≡ load_funct3 s signed
    → rd w ≡ a → rs1 w ≡ b → i_immediate w ≡ x → load_of w ≡ Some (op.Load s signed a b x)
unfolding load_of width_of has_load load_funct3 width_code
load_back w a b x width.Byte true h e f g i = simp (e, low_two w 0 e, high_one w 0 e, f, g, i)
load_back w a b x width.Half true h e f g i = simp (e, low_two w 1 e, high_one w 1 e, f, g, i)
load_back w a b x width.Word true h e f g i = simp (e, low_two w 2 e, high_one w 2 e, f, g, i)
load_back w a b x width.Double true h e f g i = simp (e, low_two w 3 e, high_one w 3 e, f, g, i)
load_back w a b x width.Byte false h e f g i = simp (e, low_two w 4 e, high_one w 4 e, f, g, i)
load_back w a b x width.Half false h e f g i = simp (e, low_two w 5 e, high_one w 5 e, f, g, i)
load_back w a b x width.Word false h e f g i = simp (e, low_two w 6 e, high_one w 6 e, f, g, i)
load_back w a b x width.Double false h e f g i = absurd (false≢true h)

pub store_back : (w a b x : ℕ) (s : Width) → funct3 w ≡ width_code s → rs1 w ≡ a → rs2 w ≡ b → s_immediate w ≡ x
    → store_of w ≡ Some (op.Store s a b x)
unfolding store_of width_of width_code
store_back w a b x width.Byte e f g i = simp (low_two w 0 e, high_one w 0 e, f, g, i)
store_back w a b x width.Half e f g i = simp (low_two w 1 e, high_one w 1 e, f, g, i)
store_back w a b x width.Word e f g i = simp (low_two w 2 e, high_one w 2 e, f, g, i)
store_back w a b x width.Double e f g i = simp (low_two w 3 e, high_one w 3 e, f, g, i)

-- OP-IMM and OP-IMM-32

-- what the word of an op with an immediate has: the amount of a shift, or the immediate
pub record Has (w x low high : ℕ) (shift : Bool) (f : ℕ) : Type 0 where
  pub amount : shift ≡ true → low ≡ x
  pub upper : shift ≡ true → high ≡ f
  pub immediate : shift ≡ false → i_immediate w ≡ x

pub immediate_back : (w a b x : ℕ) (o : AluOp) → alu_immediate_fits o x ≡ true → funct3 w ≡ alu_funct3 o
    → rd w ≡ a → rs1 w ≡ b → Has w x (field 20 6 w) (field 26 6 w) (is_shift o) (alu_funct7 o / 2)
    → immediate_arithmetic_of w ≡ Some (op.AluImmediate o a b x)
unfolding immediate_arithmetic_of immediate_op_of shift_of alu_immediate_fits alu_funct3 alu_funct7 is_shift
immediate_back w a b x alu.Add h e f g p = simp (e, low_two w 0 e, f, g, p.immediate refl)
immediate_back w a b x alu.Slt h e f g p = simp (e, low_two w 2 e, f, g, p.immediate refl)
immediate_back w a b x alu.Sltu h e f g p = simp (e, low_two w 3 e, f, g, p.immediate refl)
immediate_back w a b x alu.Xor h e f g p = simp (e, low_two w 4 e, f, g, p.immediate refl)
immediate_back w a b x alu.Or h e f g p = simp (e, low_two w 6 e, f, g, p.immediate refl)
immediate_back w a b x alu.And h e f g p = simp (e, low_two w 7 e, f, g, p.immediate refl)
immediate_back w a b x alu.Sll h e f g p = simp (e, low_two w 1 e, f, g, p.amount refl, p.upper refl)
immediate_back w a b x alu.Srl h e f g p = simp (e, low_two w 5 e, f, g, p.amount refl, p.upper refl)
immediate_back w a b x alu.Sra h e f g p = simp (e, low_two w 5 e, f, g, p.amount refl, p.upper refl)
immediate_back w a b x alu.Sub h e f g p = absurd (false≢true h)
immediate_back w a b x alu.Mul h e f g p = absurd (false≢true h)
immediate_back w a b x alu.Mulh h e f g p = absurd (false≢true h)
immediate_back w a b x alu.Mulhsu h e f g p = absurd (false≢true h)
immediate_back w a b x alu.Mulhu h e f g p = absurd (false≢true h)
immediate_back w a b x alu.Div h e f g p = absurd (false≢true h)
immediate_back w a b x alu.Divu h e f g p = absurd (false≢true h)
immediate_back w a b x alu.Rem h e f g p = absurd (false≢true h)
immediate_back w a b x alu.Remu h e f g p = absurd (false≢true h)

pub word_immediate_back : (w a b x : ℕ) (o : WordOp) → word_immediate_fits o x ≡ true → funct3 w ≡ alu_funct3 (counterpart o)
    → rd w ≡ a → rs1 w ≡ b → Has w x (rs2 w) (funct7 w) (is_shift (counterpart o)) (alu_funct7 (counterpart o))
    → word_immediate_arithmetic_of w ≡ Some (op.WordImmediate o a b x)
unfolding word_immediate_arithmetic_of word_shift_of word_immediate_fits counterpart alu_funct3 alu_funct7 is_shift
word_immediate_back w a b x word_op.Add h e f g p = simp (e, f, g, p.immediate refl)
word_immediate_back w a b x word_op.Sll h e f g p = simp (e, f, g, p.amount refl, p.upper refl)
word_immediate_back w a b x word_op.Srl h e f g p = simp (e, f, g, p.amount refl, p.upper refl)
word_immediate_back w a b x word_op.Sra h e f g p = simp (e, f, g, p.amount refl, p.upper refl)
word_immediate_back w a b x word_op.Sub h e f g p = absurd (false≢true h)
word_immediate_back w a b x word_op.Mul h e f g p = absurd (false≢true h)
word_immediate_back w a b x word_op.Div h e f g p = absurd (false≢true h)
word_immediate_back w a b x word_op.Divu h e f g p = absurd (false≢true h)
word_immediate_back w a b x word_op.Rem h e f g p = absurd (false≢true h)
word_immediate_back w a b x word_op.Remu h e f g p = absurd (false≢true h)

-- OP and OP-32

alu_back : (o : AluOp) → alu_op_of (alu_funct7 o) (alu_funct3 o) ≡ Some o
unfolding alu_op_of base_op_of multiply_op_of alu_funct7 alu_funct3
alu_back alu.Add = refl
alu_back alu.Sub = refl
alu_back alu.Sll = refl
alu_back alu.Slt = refl
alu_back alu.Sltu = refl
alu_back alu.Xor = refl
alu_back alu.Srl = refl
alu_back alu.Sra = refl
alu_back alu.Or = refl
alu_back alu.And = refl
alu_back alu.Mul = refl
alu_back alu.Mulh = refl
alu_back alu.Mulhsu = refl
alu_back alu.Mulhu = refl
alu_back alu.Div = refl
alu_back alu.Divu = refl
alu_back alu.Rem = refl
alu_back alu.Remu = refl

pub register_back : (w a b x : ℕ) (o : AluOp) → funct3 w ≡ alu_funct3 o → funct7 w ≡ alu_funct7 o → rd w ≡ a → rs1 w ≡ b → rs2 w ≡ x
    → register_arithmetic_of w ≡ Some (op.Alu o a b x)
unfolding register_arithmetic_of
register_back w a b x o e i f g k = simp (e, i, f, g, k, alu_back o)

word_op_back : (o : WordOp) → word_op_of (alu_funct7 (counterpart o)) (alu_funct3 (counterpart o)) ≡ Some o
unfolding word_op_of base_word_op_of multiply_word_op_of counterpart alu_funct7 alu_funct3
word_op_back word_op.Add = refl
word_op_back word_op.Sub = refl
word_op_back word_op.Sll = refl
word_op_back word_op.Srl = refl
word_op_back word_op.Sra = refl
word_op_back word_op.Mul = refl
word_op_back word_op.Div = refl
word_op_back word_op.Divu = refl
word_op_back word_op.Rem = refl
word_op_back word_op.Remu = refl

pub word_back : (w a b x : ℕ) (o : WordOp) → funct3 w ≡ alu_funct3 (counterpart o) → funct7 w ≡ alu_funct7 (counterpart o) → rd w ≡ a → rs1 w ≡ b → rs2 w ≡ x
    → table.word_arithmetic_of w ≡ Some (op.Word o a b x)
unfolding table.word_arithmetic_of
word_back w a b x o e i f g k = simp (e, i, f, g, k, word_op_back o)

-- AMO

pub atomic_width : (w : ℕ) (s : Width) → is_atomic_width s ≡ true → funct3 w ≡ width_code s → atomic_of w ≡ atomic_by (field 27 5 w) w s
unfolding atomic_of is_atomic_width width_code
atomic_width w width.Byte h e = absurd (false≢true h)
atomic_width w width.Half h e = absurd (false≢true h)
atomic_width w width.Word h e = simp e
atomic_width w width.Double h e = simp e

pub reserved_back : (w a b : ℕ) (s : Width) → is_atomic_width s ≡ true → funct3 w ≡ width_code s → funct7 w ≡ 0b0001000 → rd w ≡ a → rs1 w ≡ b
    → rs2 w ≡ 0 → atomic_of w ≡ Some (op.LoadReserved s a b)
unfolding atomic_by
reserved_back w a b s h e i f g k = atomic_width w s h e ∙ simp (high_five w 0b0001000 i, f, g, k)

pub conditional_back : (w a b x : ℕ) (s : Width) → is_atomic_width s ≡ true → funct3 w ≡ width_code s → funct7 w ≡ 0b0001100 → rd w ≡ a → rs1 w ≡ b
    → rs2 w ≡ x → atomic_of w ≡ Some (op.StoreConditional s a b x)
unfolding atomic_by
conditional_back w a b x s h e i f g k = atomic_width w s h e ∙ simp (high_five w 0b0001100 i, f, g, k)

amo_by : (w f7 : ℕ) (s : Width) (o : AmoOp) → f7 ≡ amo_funct7 o → atomic_by (f7 / 4) w s ≡ Some (op.Amo o s (rd w) (rs1 w) (rs2 w))
unfolding atomic_by amo_op_of amo_funct7
amo_by w f7 s amo.Swap e = simp e
amo_by w f7 s amo.Add e = simp e
amo_by w f7 s amo.Xor e = simp e
amo_by w f7 s amo.And e = simp e
amo_by w f7 s amo.Or e = simp e
amo_by w f7 s amo.Min e = simp e
amo_by w f7 s amo.Max e = simp e
amo_by w f7 s amo.Minu e = simp e
amo_by w f7 s amo.Maxu e = simp e

pub amo_back : (w a b x : ℕ) (s : Width) (o : AmoOp) → is_atomic_width s ≡ true → funct3 w ≡ width_code s → funct7 w ≡ amo_funct7 o → rd w ≡ a
    → rs1 w ≡ b → rs2 w ≡ x → atomic_of w ≡ Some (op.Amo o s a b x)
amo_back w a b x s o h e i f g k = atomic_width w s h e ∙ simp (high_five w (funct7 w) refl, amo_by w (funct7 w) s o i, f, g, k)

-- SYSTEM

fence_words : (w f : ℕ) → funct3 w ≡ 0 → rd w ≡ 0 → funct7 w ≡ f → 8 < f → f % 2 ≡ 1 → system_of w ≡ fence_op_of w
unfolding system_of system_op_of
fence_words w f e g i h k = simp (
  e,
  g,
  ne_eqb w 0x00000073 (λ p. omega arith),
  ne_eqb w 0x00100073 (λ p. omega arith),
  ne_eqb w 0x10200073 (λ p. omega arith),
  ne_eqb w 0x10500073 (λ p. omega arith),
)

pub sfence_back : (w a b : ℕ) → funct3 w ≡ 0 → rd w ≡ 0 → funct7 w ≡ 0b0001001 → rs1 w ≡ a → rs2 w ≡ b → system_of w ≡ Some (op.SfenceVma a b)
unfolding fence_op_of
sfence_back w a b e g i f k = fence_words w 0b0001001 e g i (omega arith) refl ∙ simp (i, f, k)

pub hfence_vvma_back : (w a b : ℕ) → funct3 w ≡ 0 → rd w ≡ 0 → funct7 w ≡ 0b0010001 → rs1 w ≡ a → rs2 w ≡ b → system_of w ≡ Some (op.HfenceVvma a b)
unfolding fence_op_of
hfence_vvma_back w a b e g i f k = fence_words w 0b0010001 e g i (omega arith) refl ∙ simp (i, f, k)

pub hfence_gvma_back : (w a b : ℕ) → funct3 w ≡ 0 → rd w ≡ 0 → funct7 w ≡ 0b0110001 → rs1 w ≡ a → rs2 w ≡ b → system_of w ≡ Some (op.HfenceGvma a b)
unfolding fence_op_of
hfence_gvma_back w a b e g i f k = fence_words w 0b0110001 e g i (omega arith) refl ∙ simp (i, f, k)

guest_words : (w : ℕ) → funct3 w ≡ 4 → system_of w ≡ guest_access_of w
unfolding system_of
guest_words w e = simp e

pub guest_load_back : (w a b : ℕ) (s : Width) (signed : Bool) → has_load s signed ≡ true → funct3 w ≡ 4 → funct7 w ≡ 0b0110000 + width_code s * 2
    → rd w ≡ a → rs1 w ≡ b → rs2 w ≡ guest_load_rs2 signed → system_of w ≡ Some (op.GuestLoad s signed a b)
unfolding guest_access_of guest_load_of guest_load_by has_load width_code guest_load_rs2
guest_load_back w a b width.Byte true h e i f g k = guest_words w e ∙ simp (low_one w 48 i, i, f, g, k)
guest_load_back w a b width.Half true h e i f g k = guest_words w e ∙ simp (low_one w 50 i, i, f, g, k)
guest_load_back w a b width.Word true h e i f g k = guest_words w e ∙ simp (low_one w 52 i, i, f, g, k)
guest_load_back w a b width.Double true h e i f g k = guest_words w e ∙ simp (low_one w 54 i, i, f, g, k)
guest_load_back w a b width.Byte false h e i f g k = guest_words w e ∙ simp (low_one w 48 i, i, f, g, k)
guest_load_back w a b width.Half false h e i f g k = guest_words w e ∙ simp (low_one w 50 i, i, f, g, k)
guest_load_back w a b width.Word false h e i f g k = guest_words w e ∙ simp (low_one w 52 i, i, f, g, k)
guest_load_back w a b width.Double false h e i f g k = absurd (false≢true h)

pub guest_fetch_back : (w a b : ℕ) (s : Width) → has_guest_fetch s ≡ true → funct3 w ≡ 4 → funct7 w ≡ 0b0110000 + width_code s * 2
    → rd w ≡ a → rs1 w ≡ b → rs2 w ≡ 3 → system_of w ≡ Some (op.GuestFetch s a b)
unfolding guest_access_of guest_load_of guest_load_by has_guest_fetch width_code
guest_fetch_back w a b width.Byte h e i f g k = absurd (false≢true h)
guest_fetch_back w a b width.Half h e i f g k = guest_words w e ∙ simp (low_one w 50 i, i, f, g, k)
guest_fetch_back w a b width.Word h e i f g k = guest_words w e ∙ simp (low_one w 52 i, i, f, g, k)
guest_fetch_back w a b width.Double h e i f g k = absurd (false≢true h)

pub guest_store_back : (w a b : ℕ) (s : Width) → funct3 w ≡ 4 → funct7 w ≡ 0b0110001 + width_code s * 2 → rd w ≡ 0 → rs1 w ≡ a → rs2 w ≡ b
    → system_of w ≡ Some (op.GuestStore s a b)
unfolding guest_access_of guest_store_of width_code
guest_store_back w a b width.Byte e i f g k = guest_words w e ∙ simp (low_one w 49 i, i, f, g, k)
guest_store_back w a b width.Half e i f g k = guest_words w e ∙ simp (low_one w 51 i, i, f, g, k)
guest_store_back w a b width.Word e i f g k = guest_words w e ∙ simp (low_one w 53 i, i, f, g, k)
guest_store_back w a b width.Double e i f g k = guest_words w e ∙ simp (low_one w 55 i, i, f, g, k)

pub csr_register_back : (w a b n : ℕ) (o : CsrOp) → funct3 w ≡ csr_code o → rd w ≡ a → rs1 w ≡ b → field 20 12 w ≡ n
    → system_of w ≡ Some (op.Csr o (source.Register b) a n)
unfolding system_of csr_of csr_op_of csr_code
csr_register_back w a b n csr.Write e f g i = simp (e, low_two w 1 e, high_one w 1 e, f, g, i)
csr_register_back w a b n csr.Set e f g i = simp (e, low_two w 2 e, high_one w 2 e, f, g, i)
csr_register_back w a b n csr.Clear e f g i = simp (e, low_two w 3 e, high_one w 3 e, f, g, i)

pub csr_immediate_back : (w a b n : ℕ) (o : CsrOp) → funct3 w ≡ csr_code o + 0b100 → rd w ≡ a → rs1 w ≡ b → field 20 12 w ≡ n
    → system_of w ≡ Some (op.Csr o (source.Immediate b) a n)
unfolding system_of csr_of csr_op_of csr_code
csr_immediate_back w a b n csr.Write e f g i = simp (e, low_two w 5 e, high_one w 5 e, f, g, i)
csr_immediate_back w a b n csr.Set e f g i = simp (e, low_two w 6 e, high_one w 6 e, f, g, i)
csr_immediate_back w a b n csr.Clear e f g i = simp (e, low_two w 7 e, high_one w 7 e, f, g, i)

-- the words that have no fields of their own

pub fence_at : op_of 0x0FF0000F ≡ Some op.Fence
unfolding op_of fence_of
fence_at = refl

pub fence_i_at : op_of 0x0000100F ≡ Some op.FenceI
unfolding op_of fence_of
fence_i_at = refl

pub ecall_at : op_of 0x00000073 ≡ Some op.Ecall
unfolding op_of system_of system_op_of
ecall_at = refl

pub ebreak_at : op_of 0x00100073 ≡ Some op.Ebreak
unfolding op_of system_of system_op_of
ebreak_at = refl

pub sret_at : op_of 0x10200073 ≡ Some op.Sret
unfolding op_of system_of system_op_of
sret_at = refl

pub wfi_at : op_of 0x10500073 ≡ Some op.Wfi
unfolding op_of system_of system_op_of
wfi_at = refl
