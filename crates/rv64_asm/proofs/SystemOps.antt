-- An op of opcode SYSTEM is decoded from a word of that opcode alone.
use Rattle.std.proofs.Common.{◌≡◌, ℕ, Option, true, false, refl}
use Rattle.std.specs.Prelude.{◌==◌}
use Rattle.arch_defs.specs.declared.widths.Width.{Width}
use Rattle.arch_defs.specs.declared.widths.Width.TheVariants as width
use Rattle.op_defs.specs.declared.ops.Op.{Op}
use Rattle.op_defs.specs.declared.ops.Op.TheVariants as op
use Rattle.arch_defs.specs.Bits.{field}
use Rattle.op_defs.specs.Fields.{opcode, rd, rs1, rs2, funct3, funct7, i_immediate, u_immediate, j_immediate}
use Rattle.op_defs.specs.Table.{op_of, is_system, branch_of, test_of, load_of, store_of, width_of, immediate_arithmetic_of, immediate_op_of, shift_of, register_arithmetic_of, alu_op_of, word_immediate_arithmetic_of, word_shift_of, word_op_of, fence_of, atomic_of, atomic_by, amo_op_of, system_of}
use Rattle.op_defs.specs.Table as table
use Rattle.rv64_asm.specs.Laws.{SystemOpHasOneWord, is_system_op}
use Rattle.rv64_asm.proofs.Decoded.{Each, chosen, mapped_any, none, some, tested}
use Rattle.rv64_asm.proofs.SystemWords.{has_one_word}

-- an op of another opcode
abbrev IsOther : Op → Type 0
IsOther o = is_system_op o ≡ false

other_branch : (w : ℕ) → Each IsOther (branch_of w)
unfolding branch_of is_system_op
other_branch w = mapped_any IsOther _ (test_of (funct3 w)) (λ t. refl)

other_load : (w : ℕ) → Each IsOther (load_of w)
unfolding load_of is_system_op
other_load w = chosen IsOther _ _ _ (none IsOther) (some IsOther _ refl)

other_store : (w : ℕ) → Each IsOther (store_of w)
unfolding store_of is_system_op
other_store w = chosen IsOther _ _ _ (some IsOther _ refl) (none IsOther)

other_immediate : (w : ℕ) → Each IsOther (immediate_arithmetic_of w)
unfolding immediate_arithmetic_of is_system_op
other_immediate w =
    chosen IsOther _ _ _ (mapped_any IsOther _ (shift_of (funct3 w) (field 26 6 w)) (λ o. refl)) (some IsOther _ refl)

other_register : (w : ℕ) → Each IsOther (register_arithmetic_of w)
unfolding register_arithmetic_of is_system_op
other_register w = mapped_any IsOther _ (alu_op_of (funct7 w) (funct3 w)) (λ o. refl)

other_word_immediate : (w : ℕ) → Each IsOther (word_immediate_arithmetic_of w)
unfolding word_immediate_arithmetic_of is_system_op
other_word_immediate w =
    chosen IsOther _ _ _ (some IsOther _ refl) (mapped_any IsOther _ (word_shift_of (funct3 w) (funct7 w)) (λ o. refl))

other_word : (w : ℕ) → Each IsOther (table.word_arithmetic_of w)
unfolding table.word_arithmetic_of is_system_op
other_word w = mapped_any IsOther _ (word_op_of (funct7 w) (funct3 w)) (λ o. refl)

other_fence : (w : ℕ) → Each IsOther (fence_of w)
unfolding fence_of is_system_op
other_fence w =
    chosen IsOther _ _ _ (some IsOther op.Fence refl) (chosen IsOther _ _ _ (some IsOther op.FenceI refl) (none IsOther))

other_atomic_by : (f w : ℕ) (s : Width) → Each IsOther (atomic_by f w s)
unfolding atomic_by is_system_op
other_atomic_by f w s =
    chosen IsOther _ _ _ (chosen IsOther _ _ _ (some IsOther (op.LoadReserved s (rd w) (rs1 w)) refl) (none IsOther))
    (chosen IsOther _ _ _ (some IsOther (op.StoreConditional s (rd w) (rs1 w) (rs2 w)) refl)
    (mapped_any IsOther _ (amo_op_of f) (λ o. refl)))

other_atomic : (w : ℕ) → Each IsOther (atomic_of w)
unfolding atomic_of
other_atomic w =
    chosen IsOther _ _ _ (other_atomic_by (field 27 5 w) w width.Word)
    (chosen IsOther _ _ _ (other_atomic_by (field 27 5 w) w width.Double) (none IsOther))

-- an op of this opcode is of a word of this opcode
abbrev OfSystem : ℕ → Op → Type 0
OfSystem w o = is_system_op o ≡ true → is_system w ≡ true

never : (w : ℕ) (found : Option Op) → Each IsOther found → Each (OfSystem w) found
never w found h = record { each = λ o e. λ is. let other : is_system_op o ≡ false = h.each o e in cc }

of_table : (w : ℕ) → Each (OfSystem w) (op_of w)
unfolding op_of is_system_op is_system
of_table w =
    chosen (OfSystem w) (opcode w == 0b0110111) _ _ (never w _ (some IsOther (op.Lui (rd w) (u_immediate w)) refl))
    (chosen (OfSystem w) (opcode w == 0b0010111) _ _ (never w _ (some IsOther (op.Auipc (rd w) (u_immediate w)) refl))
    (chosen (OfSystem w) (opcode w == 0b1101111) _ _ (never w _ (some IsOther (op.Jal (rd w) (j_immediate w)) refl))
    (chosen (OfSystem w) (opcode w == 0b1100111) _ _
    (never w _ (chosen IsOther (funct3 w == 0) _ _ (some IsOther (op.Jalr (rd w) (rs1 w) (i_immediate w)) refl) (none IsOther)))
    (chosen (OfSystem w) (opcode w == 0b1100011) _ _ (never w _ (other_branch w))
    (chosen (OfSystem w) (opcode w == 0b0000011) _ _ (never w _ (other_load w))
    (chosen (OfSystem w) (opcode w == 0b0100011) _ _ (never w _ (other_store w))
    (chosen (OfSystem w) (opcode w == 0b0010011) _ _ (never w _ (other_immediate w))
    (chosen (OfSystem w) (opcode w == 0b0110011) _ _ (never w _ (other_register w))
    (chosen (OfSystem w) (opcode w == 0b0011011) _ _ (never w _ (other_word_immediate w))
    (chosen (OfSystem w) (opcode w == 0b0111011) _ _ (never w _ (other_word w))
    (chosen (OfSystem w) (opcode w == 0b0001111) _ _ (never w _ (other_fence w))
    (chosen (OfSystem w) (opcode w == 0b0101111) _ _ (never w _ (other_atomic w))
    (tested (OfSystem w) (opcode w == 0b1110011) _ _ (λ e. record { each = λ o f. λ is. e }) (λ e. none (OfSystem w)))))))))))))))

pub op_has_one_word : SystemOpHasOneWord
op_has_one_word w o small is e = has_one_word w o small ((of_table w).each o e is) e
