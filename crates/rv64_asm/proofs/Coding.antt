-- Decoding gives each op back, by the format of its word.
use Rattle.std.proofs.Common.{◌≡◌, ℕ, ◌+◌, ◌*◌, ◌%◌, ◌^◌, ◌<◌, Some, Bool, true, false, refl, sym, ◌∙◌, arith}
use Rattle.std.specs.Prelude.{nat_lt, ◌&&◌, if◌then◌else◌}
use Rattle.std.proofs.lemmas.Bool.{and_parts, and_from, ltb-true, false≢true, true≢false}
use Rattle.arch_defs.specs.declared.widths.Width.{Width}
use Rattle.arch_defs.specs.declared.widths.Width.TheVariants as width
use Rattle.op_defs.specs.declared.ops.AluOp.{AluOp}
use Rattle.op_defs.specs.declared.ops.AluOp.TheVariants as alu
use Rattle.op_defs.specs.declared.ops.WordOp.{WordOp}
use Rattle.op_defs.specs.declared.ops.WordOp.TheVariants as word_op
use Rattle.op_defs.specs.declared.ops.AmoOp.{AmoOp}
use Rattle.op_defs.specs.declared.ops.AmoOp.TheVariants as amo
use Rattle.op_defs.specs.declared.ops.Test.{Test}
use Rattle.op_defs.specs.declared.ops.Test.TheVariants as test
use Rattle.op_defs.specs.declared.ops.CsrOp.{CsrOp}
use Rattle.op_defs.specs.declared.ops.CsrOp.TheVariants as csr
use Rattle.op_defs.specs.declared.ops.CsrSource.{CsrSource}
use Rattle.op_defs.specs.declared.ops.CsrSource.TheVariants as source
use Rattle.op_defs.specs.declared.ops.Op.{Op}
use Rattle.op_defs.specs.declared.ops.Op.TheVariants as op
use Rattle.op_defs.specs.Table.{op_of}
use Rattle.rv64_asm.specs.Words.{encoded, r_word, i_word, s_word, b_word, u_word, j_word, immediate_word, csr_word, test_funct3, width_code, load_funct3, alu_funct3, alu_funct7, counterpart, register_word, is_shift, amo_funct7, csr_code, guest_load_rs2}
use Rattle.rv64_asm.specs.Fitting.{fits, in_range, in_steps, has_load, has_guest_fetch, is_atomic_width, alu_immediate_fits, word_immediate_fits, source_fits}
use Rattle.rv64_asm.specs.Laws.{all_named, is_register, source_named}
use Rattle.rv64_asm.proofs.WordFields.{RWord, ShiftWord, IWord, SWord, BWord, UWord, JWord, r_fields, shift_fields, i_fields, s_fields, b_fields, u_fields, j_fields}
use Rattle.rv64_asm.proofs.Immediates.{i_back, i_number, s_back, b_back, u_back, j_back}
use Rattle.rv64_asm.proofs.Shifts.{shift_fits, word_shift_fits}
use Rattle.rv64_asm.proofs.TableBack as group

-- registers' numbers

is_named : (a : ℕ) → is_register a ≡ true → a < 2 ^ 5
is_named a h = ltb-true a 32 h

first : (a b : ℕ) → (is_register a && is_register b) ≡ true → a < 2 ^ 5
first a b h = is_named a (and_parts (is_register a) (is_register b) h).0

second : (a b : ℕ) → (is_register a && is_register b) ≡ true → b < 2 ^ 5
second a b h = is_named b (and_parts (is_register a) (is_register b) h).1

-- funct3 and funct7 are small

small_test : (t : Test) → test_funct3 t < 2 ^ 3
unfolding test_funct3
small_test test.Eq = omega arith
small_test test.Ne = omega arith
small_test test.Lt = omega arith
small_test test.Ge = omega arith
small_test test.Ltu = omega arith
small_test test.Geu = omega arith

small_width : (s : Width) → width_code s < 2 ^ 2
unfolding width_code
small_width width.Byte = omega arith
small_width width.Half = omega arith
small_width width.Word = omega arith
small_width width.Double = omega arith

small_load : (s : Width) (signed : Bool) → load_funct3 s signed < 2 ^ 3
unfolding load_funct3
small_load s true = omega (arith, small_width s)
small_load s false = omega (arith, small_width s)

small_csr : (o : CsrOp) → csr_code o < 2 ^ 3
unfolding csr_code
small_csr csr.Write = omega arith
small_csr csr.Set = omega arith
small_csr csr.Clear = omega arith

small_csr_immediate : (o : CsrOp) → csr_code o + 0b100 < 2 ^ 3
unfolding csr_code
small_csr_immediate csr.Write = omega arith
small_csr_immediate csr.Set = omega arith
small_csr_immediate csr.Clear = omega arith

small_rs2 : (signed : Bool) → guest_load_rs2 signed < 2 ^ 5
unfolding guest_load_rs2
small_rs2 true = omega arith
small_rs2 false = omega arith

small_alu : (o : AluOp) → (alu_funct3 o < 2 ^ 3) × (alu_funct7 o < 2 ^ 7)
unfolding alu_funct3 alu_funct7
small_alu alu.Add = (omega arith, omega arith)
small_alu alu.Sub = (omega arith, omega arith)
small_alu alu.Sll = (omega arith, omega arith)
small_alu alu.Slt = (omega arith, omega arith)
small_alu alu.Sltu = (omega arith, omega arith)
small_alu alu.Xor = (omega arith, omega arith)
small_alu alu.Srl = (omega arith, omega arith)
small_alu alu.Sra = (omega arith, omega arith)
small_alu alu.Or = (omega arith, omega arith)
small_alu alu.And = (omega arith, omega arith)
small_alu alu.Mul = (omega arith, omega arith)
small_alu alu.Mulh = (omega arith, omega arith)
small_alu alu.Mulhsu = (omega arith, omega arith)
small_alu alu.Mulhu = (omega arith, omega arith)
small_alu alu.Div = (omega arith, omega arith)
small_alu alu.Divu = (omega arith, omega arith)
small_alu alu.Rem = (omega arith, omega arith)
small_alu alu.Remu = (omega arith, omega arith)

small_amo : (o : AmoOp) → amo_funct7 o < 2 ^ 7
unfolding amo_funct7
small_amo amo.Swap = omega arith
small_amo amo.Add = omega arith
small_amo amo.Xor = omega arith
small_amo amo.And = omega arith
small_amo amo.Or = omega arith
small_amo amo.Min = omega arith
small_amo amo.Max = omega arith
small_amo amo.Minu = omega arith
small_amo amo.Maxu = omega arith

-- shifts have amounts, and the others immediates of 12 bits

even_alu7 : (o : AluOp) → is_shift o ≡ true → alu_funct7 o % 2 ≡ 0
unfolding is_shift alu_funct7
even_alu7 alu.Sll s = refl
even_alu7 alu.Srl s = refl
even_alu7 alu.Sra s = refl
even_alu7 o s = absurd (false≢true s)

plain_fits : (o : AluOp) (x : ℕ) → is_shift o ≡ false → alu_immediate_fits o x ≡ true → in_range 12 x ≡ true
unfolding is_shift alu_immediate_fits
plain_fits alu.Add x s h = h
plain_fits alu.Slt x s h = h
plain_fits alu.Sltu x s h = h
plain_fits alu.Xor x s h = h
plain_fits alu.Or x s h = h
plain_fits alu.And x s h = h
plain_fits alu.Sll x s h = absurd (true≢false s)
plain_fits alu.Srl x s h = absurd (true≢false s)
plain_fits alu.Sra x s h = absurd (true≢false s)
plain_fits o x s h = absurd (false≢true h)

plain_word_fits : (o : WordOp) (x : ℕ) → is_shift (counterpart o) ≡ false → word_immediate_fits o x ≡ true → in_range 12 x ≡ true
unfolding is_shift counterpart word_immediate_fits
plain_word_fits word_op.Add x s h = h
plain_word_fits word_op.Sll x s h = absurd (true≢false s)
plain_word_fits word_op.Srl x s h = absurd (true≢false s)
plain_word_fits word_op.Sra x s h = absurd (true≢false s)
plain_word_fits o x s h = absurd (false≢true h)

-- words of the other formats

s_parts : (o c a b x : ℕ) → o < 2 ^ 7 → c < 2 ^ 3 → (is_register a && is_register b) ≡ true → SWord (s_word o c a b x) o c a b x
s_parts o c a b x k l h = s_fields o c a b x k l (first a b h) (second a b h)

b_parts : (o c a b x : ℕ) → o < 2 ^ 7 → c < 2 ^ 3 → (is_register a && is_register b) ≡ true → BWord (b_word o c a b x) o c a b x
b_parts o c a b x k l h = b_fields o c a b x k l (first a b h) (second a b h)

-- R, with rs2 a register, or a number of five bits, or one of six bits
amount_parts : (o a c b e f : ℕ) → o < 2 ^ 7 → c < 2 ^ 3 → f < 2 ^ 7 → (is_register a && is_register b) ≡ true → e < 2 ^ 5
    → RWord (r_word o a c b e f) o a c b e f
amount_parts o a c b e f k l m h n = r_fields o a c b e f k (first a b h) l (second a b h) n m

r_parts : (o a c b e f : ℕ) → o < 2 ^ 7 → c < 2 ^ 3 → f < 2 ^ 7 → (is_register a && is_register b && is_register e) ≡ true
    → RWord (r_word o a c b e f) o a c b e f
r_parts o a c b e f k l m h = let i = and_parts (is_register a && is_register b) (is_register e) h in
    amount_parts o a c b e f k l m i.0 (is_named e i.1)

shift_parts : (o a c b e f : ℕ) → o < 2 ^ 7 → c < 2 ^ 3 → f < 2 ^ 7 → (is_register a && is_register b) ≡ true → e < 2 ^ 6 → f % 2 ≡ 0
    → ShiftWord (r_word o a c b e f) o a c b e f
shift_parts o a c b e f k l m h n i = shift_fields o a c b e f k (first a b h) l (second a b h) n m i

-- U and J

lui : (w a x : ℕ) → UWord w 0b0110111 a x → in_steps 32 4096 x ≡ true → op_of w ≡ Some (op.Lui a x)
lui w a x p h = group.at_lui w p.opcode ∙ simp (p.rd, u_back w x p.immediate h)

auipc : (w a x : ℕ) → UWord w 0b0010111 a x → in_steps 32 4096 x ≡ true → op_of w ≡ Some (op.Auipc a x)
auipc w a x p h = group.at_auipc w p.opcode ∙ simp (p.rd, u_back w x p.immediate h)

jal : (w a x : ℕ) → JWord w 0b1101111 a x → in_steps 21 2 x ≡ true → op_of w ≡ Some (op.Jal a x)
jal w a x p h = group.at_jal w p.opcode ∙ simp (p.rd, j_back w x p.immediate h)

u_parts : (o a x : ℕ) → o < 2 ^ 7 → is_register a ≡ true → UWord (u_word o a x) o a x
u_parts o a x k h = u_fields o a x k (is_named a h)

j_parts : (o a x : ℕ) → o < 2 ^ 7 → is_register a ≡ true → JWord (j_word o a x) o a x
j_parts o a x k h = j_fields o a x k (is_named a h)

-- I

i_parts : (o a c b x : ℕ) → o < 2 ^ 7 → c < 2 ^ 3 → (is_register a && is_register b) ≡ true → IWord (i_word o a c b x) o a c b x
i_parts o a c b x k l h = i_fields o a c b x k (first a b h) l (second a b h)

jalr : (w a b x : ℕ) → IWord w 0b1100111 a 0 b x → in_range 12 x ≡ true → op_of w ≡ Some (op.Jalr a b x)
jalr w a b x p h = group.at_jalr w p.low.opcode p.low.funct3
    ∙ simp (p.low.rd, p.low.rs1, i_back w x p.immediate h)

load : (w a b x : ℕ) (s : Width) (signed : Bool) → IWord w 0b0000011 a (load_funct3 s signed) b x → (has_load s signed && in_range 12 x) ≡ true
    → op_of w ≡ Some (op.Load s signed a b x)
load w a b x s signed p h = let k = and_parts (has_load s signed) (in_range 12 x) h in group.at_load w p.low.opcode
    ∙ group.load_back w a b x s signed k.0 p.low.funct3 p.low.rd p.low.rs1
    (i_back w x p.immediate k.1)

-- an op on a control and status register

csr_register : (a b n : ℕ) (o : CsrOp) → is_register a ≡ true → is_register b ≡ true → n < 2 ^ 12
    → op_of (i_word 0b1110011 a (csr_code o) b n) ≡ Some (op.Csr o (source.Register b) a n)
csr_register a b n o k l h = let p = i_parts 0b1110011 a (csr_code o) b n (omega arith) (small_csr o) (and_from (is_register a) (is_register b) k l) in
    let w = i_word 0b1110011 a (csr_code o) b n in
    group.at_system w p.low.opcode
    ∙ group.csr_register_back w a b n o p.low.funct3 p.low.rd p.low.rs1
    (i_number w n p.immediate h)

csr_immediate : (a b n : ℕ) (o : CsrOp) → is_register a ≡ true → is_register b ≡ true → n < 2 ^ 12
    → op_of (i_word 0b1110011 a (csr_code o + 0b100) b n) ≡ Some (op.Csr o (source.Immediate b) a n)
csr_immediate a b n o k l h = let p = i_parts 0b1110011 a (csr_code o + 0b100) b n (omega arith) (small_csr_immediate o) (and_from (is_register a) (is_register b) k l) in
    let w = i_word 0b1110011 a (csr_code o + 0b100) b n in
    group.at_system w p.low.opcode
    ∙ group.csr_immediate_back w a b n o p.low.funct3 p.low.rd p.low.rs1
    (i_number w n p.immediate h)

csr_back : (a n : ℕ) (o : CsrOp) (from : CsrSource) → (is_register a && source_named from) ≡ true → (source_fits from && nat_lt n 4096) ≡ true
    → op_of (csr_word o from a n) ≡ Some (op.Csr o from a n)
unfolding csr_word source_named source_fits
csr_back a n o (source.Register b) h k = let l = and_parts (is_register a) (is_register b) h in csr_register a b n o l.0 l.1 (ltb-true n 4096 k)
csr_back a n o (source.Immediate b) h k = let l = and_parts (is_register a) true h in let m = and_parts (nat_lt b 32) (nat_lt n 4096) k in
    csr_immediate a b n o l.0 m.0 (ltb-true n 4096 m.1)

-- S and B

store : (a b x : ℕ) (s : Width) → (is_register a && is_register b) ≡ true → in_range 12 x ≡ true
    → op_of (s_word 0b0100011 (width_code s) a b x) ≡ Some (op.Store s a b x)
store a b x s h k = let p = s_parts 0b0100011 (width_code s) a b x (omega arith) (omega (arith, small_width s)) h in
    let w = s_word 0b0100011 (width_code s) a b x in
    group.at_store w p.low.opcode
    ∙ group.store_back w a b x s p.low.funct3 p.low.rs1 p.rs2
    (s_back w x p.immediate k)

branch : (a b x : ℕ) (t : Test) → (is_register a && is_register b) ≡ true → in_steps 13 2 x ≡ true
    → op_of (b_word 0b1100011 (test_funct3 t) a b x) ≡ Some (op.Branch t a b x)
branch a b x t h k = let p = b_parts 0b1100011 (test_funct3 t) a b x (omega arith) (small_test t) h in
    let w = b_word 0b1100011 (test_funct3 t) a b x in
    group.at_branch w p.low.opcode
    ∙ group.branch_back w a b x t p.low.funct3 p.low.rs1 p.rs2
    (b_back w x p.immediate k)

-- R

register : (a b c : ℕ) (o : AluOp) → (is_register a && is_register b && is_register c) ≡ true
    → op_of (register_word 0b0110011 o a b c) ≡ Some (op.Alu o a b c)
unfolding register_word
register a b c o h = let p = r_parts 0b0110011 a (alu_funct3 o) b c (alu_funct7 o) (omega arith) (small_alu o).0 (small_alu o).1 h in
    let w = r_word 0b0110011 a (alu_funct3 o) b c (alu_funct7 o) in
    group.at_register w p.low.opcode
    ∙ group.register_back w a b c o p.low.funct3 p.funct7 p.low.rd
    p.low.rs1 p.rs2

word : (a b c : ℕ) (o : WordOp) → (is_register a && is_register b && is_register c) ≡ true
    → op_of (register_word 0b0111011 (counterpart o) a b c) ≡ Some (op.Word o a b c)
unfolding register_word
word a b c o h = let p = r_parts 0b0111011 a (alu_funct3 (counterpart o)) b c (alu_funct7 (counterpart o)) (omega arith) (small_alu (counterpart o)).0 (small_alu (counterpart o)).1 h in
    let w = r_word 0b0111011 a (alu_funct3 (counterpart o)) b c (alu_funct7 (counterpart o)) in
    group.at_word w p.low.opcode
    ∙ group.word_back w a b c o p.low.funct3 p.funct7 p.low.rd
    p.low.rs1 p.rs2

-- OP-IMM and OP-IMM-32

alu_immediate : (a b x : ℕ) (o : AluOp) (shift : Bool) → is_shift o ≡ shift → (is_register a && is_register b) ≡ true → alu_immediate_fits o x ≡ true
    → op_of (if shift then register_word 0b0010011 o a b x else i_word 0b0010011 a (alu_funct3 o) b x) ≡ Some (op.AluImmediate o a b x)
unfolding register_word
alu_immediate a b x o true s h k =
    let p = shift_parts 0b0010011 a (alu_funct3 o) b x (alu_funct7 o) (omega arith) (small_alu o).0 (small_alu o).1 h (shift_fits o x s k) (even_alu7 o s) in
    let w = r_word 0b0010011 a (alu_funct3 o) b x (alu_funct7 o) in
    group.at_immediate w p.low.opcode
    ∙ group.immediate_back w a b x o k p.low.funct3 p.low.rd p.low.rs1
    (record {
      amount = λ _. p.amount;
      upper = λ _. p.upper;
      immediate = λ q. absurd (true≢false (sym s ∙ q));
    })
alu_immediate a b x o false s h k =
    let p = i_parts 0b0010011 a (alu_funct3 o) b x (omega arith) (small_alu o).0 h in
    let w = i_word 0b0010011 a (alu_funct3 o) b x in
    group.at_immediate w p.low.opcode
    ∙ group.immediate_back w a b x o k p.low.funct3 p.low.rd p.low.rs1
    (record {
      amount = λ q. absurd (true≢false (sym q ∙ s));
      upper = λ q. absurd (true≢false (sym q ∙ s));
      immediate = λ _. i_back w x p.immediate (plain_fits o x s k);
    })

word_immediate : (a b x : ℕ) (o : WordOp) (shift : Bool) → is_shift (counterpart o) ≡ shift → (is_register a && is_register b) ≡ true → word_immediate_fits o x ≡ true
    → op_of (if shift then register_word 0b0011011 (counterpart o) a b x else i_word 0b0011011 a (alu_funct3 (counterpart o)) b x) ≡ Some (op.WordImmediate o a b x)
unfolding register_word
word_immediate a b x o true s h k =
    let p = amount_parts 0b0011011 a (alu_funct3 (counterpart o)) b x (alu_funct7 (counterpart o)) (omega arith) (small_alu (counterpart o)).0 (small_alu (counterpart o)).1 h (word_shift_fits o x s k) in
    let w = r_word 0b0011011 a (alu_funct3 (counterpart o)) b x (alu_funct7 (counterpart o)) in
    group.at_word_immediate w p.low.opcode
    ∙ group.word_immediate_back w a b x o k p.low.funct3 p.low.rd p.low.rs1
    (record {
      amount = λ _. p.rs2;
      upper = λ _. p.funct7;
      immediate = λ q. absurd (true≢false (sym s ∙ q));
    })
word_immediate a b x o false s h k =
    let p = i_parts 0b0011011 a (alu_funct3 (counterpart o)) b x (omega arith) (small_alu (counterpart o)).0 h in
    let w = i_word 0b0011011 a (alu_funct3 (counterpart o)) b x in
    group.at_word_immediate w p.low.opcode
    ∙ group.word_immediate_back w a b x o k p.low.funct3 p.low.rd p.low.rs1
    (record {
      amount = λ q. absurd (true≢false (sym q ∙ s));
      upper = λ q. absurd (true≢false (sym q ∙ s));
      immediate = λ _. i_back w x p.immediate (plain_word_fits o x s k);
    })

-- AMO

reserved : (a b : ℕ) (s : Width) → (is_register a && is_register b) ≡ true → is_atomic_width s ≡ true
    → op_of (r_word 0b0101111 a (width_code s) b 0 0b0001000) ≡ Some (op.LoadReserved s a b)
reserved a b s h k = let p = amount_parts 0b0101111 a (width_code s) b 0 0b0001000 (omega arith) (omega (arith, small_width s)) (omega arith) h (omega arith) in
    let w = r_word 0b0101111 a (width_code s) b 0 0b0001000 in
    group.at_atomic w p.low.opcode
    ∙ group.reserved_back w a b s k p.low.funct3 p.funct7
    p.low.rd p.low.rs1 p.rs2

conditional : (a b c : ℕ) (s : Width) → (is_register a && is_register b && is_register c) ≡ true → is_atomic_width s ≡ true
    → op_of (r_word 0b0101111 a (width_code s) b c 0b0001100) ≡ Some (op.StoreConditional s a b c)
conditional a b c s h k = let p = r_parts 0b0101111 a (width_code s) b c 0b0001100 (omega arith) (omega (arith, small_width s)) (omega arith) h in
    let w = r_word 0b0101111 a (width_code s) b c 0b0001100 in
    group.at_atomic w p.low.opcode
    ∙ group.conditional_back w a b c s k p.low.funct3 p.funct7
    p.low.rd p.low.rs1 p.rs2

modify : (a b c : ℕ) (s : Width) (o : AmoOp) → (is_register a && is_register b && is_register c) ≡ true → is_atomic_width s ≡ true
    → op_of (r_word 0b0101111 a (width_code s) b c (amo_funct7 o)) ≡ Some (op.Amo o s a b c)
modify a b c s o h k = let p = r_parts 0b0101111 a (width_code s) b c (amo_funct7 o) (omega arith) (omega (arith, small_width s)) (small_amo o) h in
    let w = r_word 0b0101111 a (width_code s) b c (amo_funct7 o) in
    group.at_atomic w p.low.opcode
    ∙ group.amo_back w a b c s o k p.low.funct3 p.funct7
    p.low.rd p.low.rs1 p.rs2

-- SYSTEM

sfence : (a b : ℕ) → (is_register a && is_register b) ≡ true → op_of (r_word 0b1110011 0 0b000 a b 0b0001001) ≡ Some (op.SfenceVma a b)
sfence a b h = let p = r_parts 0b1110011 0 0 a b 0b0001001 (omega arith) (omega arith) (omega arith) h in
    let w = r_word 0b1110011 0 0 a b 0b0001001 in
    group.at_system w p.low.opcode
    ∙ group.sfence_back w a b p.low.funct3 p.low.rd
    p.funct7 p.low.rs1 p.rs2

hfence_vvma : (a b : ℕ) → (is_register a && is_register b) ≡ true → op_of (r_word 0b1110011 0 0b000 a b 0b0010001) ≡ Some (op.HfenceVvma a b)
hfence_vvma a b h = let p = r_parts 0b1110011 0 0 a b 0b0010001 (omega arith) (omega arith) (omega arith) h in
    let w = r_word 0b1110011 0 0 a b 0b0010001 in
    group.at_system w p.low.opcode
    ∙ group.hfence_vvma_back w a b p.low.funct3 p.low.rd
    p.funct7 p.low.rs1 p.rs2

hfence_gvma : (a b : ℕ) → (is_register a && is_register b) ≡ true → op_of (r_word 0b1110011 0 0b000 a b 0b0110001) ≡ Some (op.HfenceGvma a b)
hfence_gvma a b h = let p = r_parts 0b1110011 0 0 a b 0b0110001 (omega arith) (omega arith) (omega arith) h in
    let w = r_word 0b1110011 0 0 a b 0b0110001 in
    group.at_system w p.low.opcode
    ∙ group.hfence_gvma_back w a b p.low.funct3 p.low.rd
    p.funct7 p.low.rs1 p.rs2

guest_load : (a b : ℕ) (s : Width) (signed : Bool) → (is_register a && is_register b) ≡ true → has_load s signed ≡ true
    → op_of (r_word 0b1110011 a 0b100 b (guest_load_rs2 signed) (0b0110000 + width_code s * 2)) ≡ Some (op.GuestLoad s signed a b)
guest_load a b s signed h k =
    let p = amount_parts 0b1110011 a 4 b (guest_load_rs2 signed) (48 + width_code s * 2) (omega arith) (omega arith) (omega (arith, small_width s)) h (small_rs2 signed) in
    let w = r_word 0b1110011 a 4 b (guest_load_rs2 signed) (48 + width_code s * 2) in
    group.at_system w p.low.opcode
    ∙ group.guest_load_back w a b s signed k p.low.funct3 p.funct7
    p.low.rd p.low.rs1 p.rs2

guest_fetch : (a b : ℕ) (s : Width) → (is_register a && is_register b) ≡ true → has_guest_fetch s ≡ true
    → op_of (r_word 0b1110011 a 0b100 b 3 (0b0110000 + width_code s * 2)) ≡ Some (op.GuestFetch s a b)
guest_fetch a b s h k =
    let p = amount_parts 0b1110011 a 4 b 3 (48 + width_code s * 2) (omega arith) (omega arith) (omega (arith, small_width s)) h (omega arith) in
    let w = r_word 0b1110011 a 4 b 3 (48 + width_code s * 2) in
    group.at_system w p.low.opcode
    ∙ group.guest_fetch_back w a b s k p.low.funct3 p.funct7
    p.low.rd p.low.rs1 p.rs2

guest_store : (a b : ℕ) (s : Width) → (is_register a && is_register b) ≡ true
    → op_of (r_word 0b1110011 0 0b100 a b (0b0110001 + width_code s * 2)) ≡ Some (op.GuestStore s a b)
guest_store a b s h =
    let p = r_parts 0b1110011 0 4 a b (49 + width_code s * 2) (omega arith) (omega arith) (omega (arith, small_width s)) h in
    let w = r_word 0b1110011 0 4 a b (49 + width_code s * 2) in
    group.at_system w p.low.opcode
    ∙ group.guest_store_back w a b s p.low.funct3 p.funct7
    p.low.rd p.low.rs1 p.rs2

pub decodes : (o : Op) → all_named o ≡ true → fits o ≡ true → op_of (encoded o) ≡ Some o
unfolding all_named fits encoded immediate_word
decodes (op.Lui a x) h k = lui _ a x (u_parts 0b0110111 a x (omega arith) h) k
decodes (op.Auipc a x) h k = auipc _ a x (u_parts 0b0010111 a x (omega arith) h) k
decodes (op.Jal a x) h k = jal _ a x (j_parts 0b1101111 a x (omega arith) h) k
decodes (op.Jalr a b x) h k = jalr _ a b x (i_parts 0b1100111 a 0 b x (omega arith) (omega arith) h) k
decodes (op.Branch t a b x) h k = branch a b x t h k
decodes (op.Load s signed a b x) h k = load _ a b x s signed (i_parts 0b0000011 a _ b x (omega arith) (small_load s signed) h) k
decodes (op.Store s a b x) h k = store a b x s h k
decodes (op.AluImmediate o a b x) h k = alu_immediate a b x o (is_shift o) refl h k
decodes (op.Alu o a b c) h k = register a b c o h
decodes (op.WordImmediate o a b x) h k = word_immediate a b x o (is_shift (counterpart o)) refl h k
decodes (op.Word o a b c) h k = word a b c o h
decodes op.Fence h k = group.fence_at
decodes op.FenceI h k = group.fence_i_at
decodes (op.LoadReserved s a b) h k = reserved a b s h k
decodes (op.StoreConditional s a b c) h k = conditional a b c s h k
decodes (op.Amo o s a b c) h k = modify a b c s o h k
decodes op.Ecall h k = group.ecall_at
decodes op.Ebreak h k = group.ebreak_at
decodes op.Sret h k = group.sret_at
decodes op.Wfi h k = group.wfi_at
decodes (op.Csr o from a n) h k = csr_back a n o from h k
decodes (op.SfenceVma a b) h k = sfence a b h
decodes (op.HfenceVvma a b) h k = hfence_vvma a b h
decodes (op.HfenceGvma a b) h k = hfence_gvma a b h
decodes (op.GuestLoad s signed a b) h k = guest_load a b s signed h k
decodes (op.GuestFetch s a b) h k = guest_fetch a b s h k
decodes (op.GuestStore s a b) h k = guest_store a b s h
