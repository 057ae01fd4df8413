-- LR has a width of 4 or 8 bytes, by the table of instructions.
use Rattle.std.specs.Prelude.{◌==◌, option_map}
use Rattle.std.proofs.Common.{◌≡◌, ℕ, ◌⊎◌, inl, inr, Option, Some, None, refl}
use Rattle.arch_defs.specs.declared.widths.Width.{Width}
use Rattle.arch_defs.specs.declared.widths.Width.TheVariants as width
use Rattle.arch_defs.specs.Bits.{field}
use Rattle.arch_defs.specs.Widths.{bytes_in}
use Rattle.op_defs.specs.declared.ops.Op.{Op}
use Rattle.op_defs.specs.declared.ops.Op.TheVariants as op
use Rattle.op_defs.specs.Fields.{funct3, funct7, opcode, rd, rs2}
use Rattle.op_defs.specs.Table.{alu_op_of, amo_op_of, atomic_by, atomic_of, branch_of, csr_of, fence_of, fence_op_of, guest_access_of, guest_load_by, guest_load_of, guest_store_of, immediate_arithmetic_of, load_of, op_of, register_arithmetic_of, shift_of, store_of, system_of, system_op_of, test_of, word_arithmetic_of, word_immediate_arithmetic_of, word_op_of, word_shift_of}
use Rattle.instruction_laws.proofs.Cached.{either}

-- the width that a reservation can have
abbrev pub IsReservable : ℕ → Type 0
IsReservable bytes = (bytes ≡ 4) ⊎ (bytes ≡ 8)

-- an instruction is no LR, or has such a width
abbrev pub HasWidth : Op → Type 0
HasWidth (op.LoadReserved w rd rs1) = IsReservable (bytes_in w)
HasWidth _ = Unit {0}

abbrev pub HaveWidth : Option Op → Type 0
HaveWidth (Some o) = HasWidth o
HaveWidth None = Unit {0}

-- as each instruction has that is made of a part that there may not be
mapped : {A : Type 0} (f : A → Op) (part : Option A) → ((a : A) → HasWidth (f a)) → HaveWidth (option_map f part)
mapped f (Some a) each = each a
mapped f None each = tt

-- each row of the table
branch_widths : (word : ℕ) → HaveWidth (branch_of word)
unfolding branch_of
branch_widths word = mapped _ (test_of (funct3 word)) (λ t. tt)

load_widths : (word : ℕ) → HaveWidth (load_of word)
unfolding load_of
load_widths word = either HaveWidth (funct3 word == 7) _ _ tt tt

store_widths : (word : ℕ) → HaveWidth (store_of word)
unfolding store_of
store_widths word = either HaveWidth (field 14 1 word == 0) _ _ tt tt

immediate_widths : (word : ℕ) → HaveWidth (immediate_arithmetic_of word)
unfolding immediate_arithmetic_of
immediate_widths word = either HaveWidth (field 12 2 word == 1) _ _ (mapped _ (shift_of (funct3 word) (field 26 6 word)) (λ o. tt)) tt

register_widths : (word : ℕ) → HaveWidth (register_arithmetic_of word)
unfolding register_arithmetic_of
register_widths word = mapped _ (alu_op_of (funct7 word) (funct3 word)) (λ o. tt)

word_immediate_widths : (word : ℕ) → HaveWidth (word_immediate_arithmetic_of word)
unfolding word_immediate_arithmetic_of
word_immediate_widths word = either HaveWidth (funct3 word == 0) _ _ tt (mapped _ (word_shift_of (funct3 word) (funct7 word)) (λ o. tt))

word_widths : (word : ℕ) → HaveWidth (word_arithmetic_of word)
unfolding word_arithmetic_of
word_widths word = mapped _ (word_op_of (funct7 word) (funct3 word)) (λ o. tt)

fence_widths : (word : ℕ) → HaveWidth (fence_of word)
unfolding fence_of
fence_widths word = either HaveWidth (funct3 word == 0) _ _ tt (either HaveWidth (funct3 word == 1) _ _ tt tt)

-- LR
atomic_by_widths : (f5 word : ℕ) (w : Width) → IsReservable (bytes_in w) → HaveWidth (atomic_by f5 word w)
unfolding atomic_by
atomic_by_widths f5 word w is = either HaveWidth (f5 == 0b00010) _ _ (either HaveWidth (rs2 word == 0) _ _ is tt)
    (either HaveWidth (f5 == 0b00011) _ _ tt (mapped _ (amo_op_of f5) (λ o. tt)))

atomic_widths : (word : ℕ) → HaveWidth (atomic_of word)
unfolding atomic_of
atomic_widths word = either HaveWidth (funct3 word == 2) _ _ (atomic_by_widths (field 27 5 word) word width.Word (inl refl))
    (either HaveWidth (funct3 word == 3) _ _ (atomic_by_widths (field 27 5 word) word width.Double (inr refl)) tt)

-- SYSTEM
fence_op_widths : (word : ℕ) → HaveWidth (fence_op_of word)
unfolding fence_op_of
fence_op_widths word = either HaveWidth (funct7 word == 0b0001001) _ _ tt (either HaveWidth (funct7 word == 0b0010001) _ _ tt
    (either HaveWidth (funct7 word == 0b0110001) _ _ tt tt))

privileged_widths : (word : ℕ) → HaveWidth (system_op_of word)
unfolding system_op_of
privileged_widths word = either HaveWidth (word == 0x00000073) _ _ tt (either HaveWidth (word == 0x00100073) _ _ tt
    (either HaveWidth (word == 0x10200073) _ _ tt (either HaveWidth (word == 0x10500073) _ _ tt
    (either HaveWidth (rd word == 0) _ _ (fence_op_widths word) tt))))

guest_load_by_widths : (w : Width) (word : ℕ) → HaveWidth (guest_load_by w word)
unfolding guest_load_by
guest_load_by_widths w word = either HaveWidth (rs2 word == 0) _ _ tt (either HaveWidth (rs2 word == 1) _ _ tt (either HaveWidth (rs2 word == 3) _ _ tt tt))

guest_load_widths : (word : ℕ) → HaveWidth (guest_load_of word)
unfolding guest_load_of
guest_load_widths word = either HaveWidth (funct7 word == 0b0110000) _ _ (either HaveWidth (rs2 word == 3) _ _ tt (guest_load_by_widths width.Byte word))
    (either HaveWidth (funct7 word == 0b0110010) _ _ (guest_load_by_widths width.Half word)
    (either HaveWidth (funct7 word == 0b0110100) _ _ (guest_load_by_widths width.Word word)
    (either HaveWidth (funct7 word == 0b0110110) _ _ (either HaveWidth (rs2 word == 0) _ _ (guest_load_by_widths width.Double word) tt) tt)))

guest_store_widths : (word : ℕ) → HaveWidth (guest_store_of word)
unfolding guest_store_of
guest_store_widths word = either HaveWidth (funct7 word == 0b0110001) _ _ tt (either HaveWidth (funct7 word == 0b0110011) _ _ tt
    (either HaveWidth (funct7 word == 0b0110101) _ _ tt (either HaveWidth (funct7 word == 0b0110111) _ _ tt tt)))

guest_access_widths : (word : ℕ) → HaveWidth (guest_access_of word)
unfolding guest_access_of
guest_access_widths word = either HaveWidth (field 25 1 word == 0) _ _ (guest_load_widths word)
    (either HaveWidth (rd word == 0) _ _ (guest_store_widths word) tt)

csr_width : (word : ℕ) → HasWidth (csr_of word)
unfolding csr_of
csr_width word = either HasWidth (field 14 1 word == 0) _ _ tt tt

system_widths : (word : ℕ) → HaveWidth (system_of word)
unfolding system_of
system_widths word = either HaveWidth (funct3 word == 0) _ _ (privileged_widths word)
    (either HaveWidth (funct3 word == 4) _ _ (guest_access_widths word) (csr_width word))

-- the table
pub op_widths : (word : ℕ) → HaveWidth (op_of word)
unfolding op_of
op_widths word = either HaveWidth (opcode word == 0b0110111) _ _ tt (either HaveWidth (opcode word == 0b0010111) _ _ tt
    (either HaveWidth (opcode word == 0b1101111) _ _ tt
    (either HaveWidth (opcode word == 0b1100111) _ _ (either HaveWidth (funct3 word == 0) _ _ tt tt)
    (either HaveWidth (opcode word == 0b1100011) _ _ (branch_widths word)
    (either HaveWidth (opcode word == 0b0000011) _ _ (load_widths word)
    (either HaveWidth (opcode word == 0b0100011) _ _ (store_widths word)
    (either HaveWidth (opcode word == 0b0010011) _ _ (immediate_widths word)
    (either HaveWidth (opcode word == 0b0110011) _ _ (register_widths word)
    (either HaveWidth (opcode word == 0b0011011) _ _ (word_immediate_widths word)
    (either HaveWidth (opcode word == 0b0111011) _ _ (word_widths word)
    (either HaveWidth (opcode word == 0b0001111) _ _ (fence_widths word)
    (either HaveWidth (opcode word == 0b0101111) _ _ (atomic_widths word)
    (either HaveWidth (opcode word == 0b1110011) _ _ (system_widths word) tt)))))))))))))
