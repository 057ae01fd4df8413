-- The amounts of shifts.
use Rattle.std.proofs.Common.{◌≡◌, ℕ, ◌<◌, ◌^◌, true, arith}
use Rattle.std.specs.Prelude.{nat_lt}
use Rattle.std.proofs.lemmas.Bool.{and_parts, ltb-true, false≢true}
use Rattle.op_defs.specs.declared.ops.CsrOp.{CsrOp}
use Rattle.op_defs.specs.declared.ops.CsrSource.{CsrSource}
use Rattle.op_defs.specs.declared.ops.Op.{Op}
use Rattle.op_defs.specs.declared.ops.Op.TheVariants as op
use Rattle.op_defs.specs.declared.ops.AluOp.{AluOp}
use Rattle.op_defs.specs.declared.ops.AluOp.TheVariants as alu
use Rattle.op_defs.specs.declared.ops.WordOp.{WordOp}
use Rattle.op_defs.specs.declared.ops.WordOp.TheVariants as word_op
use Rattle.rv64_asm.specs.Words.{counterpart, is_shift}
use Rattle.rv64_asm.specs.Fitting.{alu_immediate_fits, fits, source_fits, word_immediate_fits}

pub shift_fits : (o : AluOp) (x : ℕ) → is_shift o ≡ true → alu_immediate_fits o x ≡ true → x < 2 ^ 6
unfolding is_shift alu_immediate_fits
shift_fits alu.Sll x s h = ltb-true x 64 h
shift_fits alu.Srl x s h = ltb-true x 64 h
shift_fits alu.Sra x s h = ltb-true x 64 h
shift_fits o x s h = absurd (false≢true s)

pub word_shift_fits : (o : WordOp) (x : ℕ) → is_shift (counterpart o) ≡ true → word_immediate_fits o x ≡ true → x < 2 ^ 5
unfolding is_shift counterpart word_immediate_fits
word_shift_fits word_op.Sll x s h = ltb-true x 32 h
word_shift_fits word_op.Srl x s h = ltb-true x 32 h
word_shift_fits word_op.Sra x s h = ltb-true x 32 h
word_shift_fits o x s h = absurd (false≢true s)

-- of an op that fits

pub alu_amount : (e : Op) (o : AluOp) (a b x : ℕ) → e ≡ op.AluImmediate o a b x → fits e ≡ true → is_shift o ≡ true → x < 2 ^ 6
unfolding fits
alu_amount e o a b x i h s = shift_fits o x s (rw i at h)

pub word_amount : (e : Op) (o : WordOp) (a b x : ℕ) → e ≡ op.WordImmediate o a b x → fits e ≡ true → is_shift (counterpart o) ≡ true
    → x < 2 ^ 6
unfolding fits
word_amount e o a b x i h s = omega (arith, word_shift_fits o x s (rw i at h))

pub ruleset amounts = (alu_amount, word_amount)

pub csr_source : (e : Op) (o : CsrOp) (from : CsrSource) (a n : ℕ) → e ≡ op.Csr o from a n → fits e ≡ true → source_fits from ≡ true
unfolding fits
csr_source e o from a n i h = (and_parts (source_fits from) (nat_lt n 4096) (rw i at h)).0
