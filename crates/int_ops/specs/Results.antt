-- The instructions that make a number of two, and which number each makes (Unprivileged ISA 20191213, 2.4,
-- 5.2, 7 and 8.4).
use Rattle.std.specs.Prelude.{ℕ, ⊤}
use Rattle.op_defs.specs.declared.ops.Op.{Op}
use Rattle.op_defs.specs.declared.ops.Op.TheVariants as op
use Rattle.op_defs.specs.Arithmetic.{alu, amo, word_alu}

-- arithmetic of I and M, on 64 bits or on the low 32 bits
abbrev pub IsArithmetic : Op → Type 0
IsArithmetic (op.AluImmediate o rd rs1 immediate) = ⊤
IsArithmetic (op.Alu o rd rs1 rs2) = ⊤
IsArithmetic (op.WordImmediate o rd rs1 immediate) = ⊤
IsArithmetic (op.Word o rd rs1 rs2) = ⊤
IsArithmetic other = ⊥

-- what it makes of its two operands
abbrev pub arithmetic_result : Op → ℕ → ℕ → ℕ
arithmetic_result (op.AluImmediate o rd rs1 immediate) a b = alu o a b
arithmetic_result (op.Alu o rd rs1 rs2) a b = alu o a b
arithmetic_result (op.WordImmediate o rd rs1 immediate) a b = word_alu o a b
arithmetic_result (op.Word o rd rs1 rs2) a b = word_alu o a b
arithmetic_result other a b = 0

-- an atomic memory operation
abbrev pub IsAmo : Op → Type 0
IsAmo (op.Amo o width rd rs1 rs2) = ⊤
IsAmo other = ⊥

-- what it makes of the old value in memory and its operand
abbrev pub amo_result : Op → ℕ → ℕ → ℕ
amo_result (op.Amo o width rd rs1 rs2) held b = amo o width held b
amo_result other held b = 0
