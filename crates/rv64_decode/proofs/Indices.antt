-- What the index of a word tells of its opcode, and funct3 of its bits.
use Rattle.std.proofs.Common.{cond, ◌≡◌, ℕ, ◌+◌, ◌*◌, ◌/◌, ◌%◌, ◌^◌, ◌<◌, Bool, true, false, Some, None, nat_eq, refl, arith}
use Rattle.std.specs.Prelude.{◌||◌, not}
use Rattle.std.proofs.lemmas.Bool.{eqb-false, ne_eqb}
use Rattle.arch_defs.specs.Bits.{field}
use Rattle.op_defs.specs.declared.ops.Op.TheVariants.{Auipc, Jal, Lui}
use Rattle.op_defs.specs.Fields.{funct3, j_immediate, opcode, rd, u_immediate}
use Rattle.op_defs.specs.Table.{atomic_of, fence_of, op_of, system_of}
use Rattle.rv64_decode.specs.Common.{IsIndex, common_op_of, spread_of}

-- the product of the fields
pub product : (next result : ℕ) → result ≡ (next / 4096 % 8 * 4096 + next % 128) * 0x40108000 % 2 ^ 32 / 2 ^ 22 → result ≡ spread_of next
unfolding spread_of
product next result is = omega (arith, is)

-- by the fields of the word after it
pub is_index : (index word next : ℕ) → next ≡ (word + 1) % 2 ^ 32 → index ≡ spread_of next → IsIndex index word
unfolding spread_of
is_index index word next follows is = record {
  common = λ low small. omega (arith, follows, is, low, small);
  low = λ most least. omega (arith, follows, is, most, least);
  upper = λ most least. omega (arith, follows, is, most, least);
}

pub opcode_at : (index word : ℕ) → IsIndex index word → index < 256 → 0 < index % 32 → opcode word ≡ 4 * ((index + 31) % 32) + 3
opcode_at index word is most least = let low = is.low most least in let upper = is.upper most least in omega (arith, is.common low upper, low, upper)

pub funct3_at : (index word : ℕ) → IsIndex index word → index < 256 → 0 < index % 32 → funct3 word ≡ index / 32
funct3_at index word is most least = let low = is.low most least in let upper = is.upper most least in omega (arith, is.common low upper, low, upper)

pub low_bits : (f word : ℕ) → f ≡ funct3 word → field 12 2 word ≡ f % 4
low_bits f word is = omega (arith, is)

pub high_bit : (f word : ℕ) → f ≡ funct3 word → field 14 1 word ≡ f / 4
high_bit f word is = omega (arith, is)

-- a word that does not end in 11 is none of the table
pub other_opcode : (word opcode_of : ℕ) → nat_eq (word % 4) 3 ≡ false → opcode_of % 4 ≡ 3 → nat_eq (opcode word) opcode_of ≡ false
other_opcode word opcode_of other low = ne_eqb (opcode word) opcode_of (λ same. eqb-false (word % 4) 3 other (omega (arith, same, low)))

-- a word whose index is none of an opcode's eight is of another opcode
pub apart : (index word : ℕ) (upper : ℕ) → upper < 31 → IsIndex index word → nat_eq index (upper + 1) ≡ false → nat_eq index (upper + 33) ≡ false
    → nat_eq index (upper + 65) ≡ false → nat_eq index (upper + 97) ≡ false → nat_eq index (upper + 129) ≡ false → nat_eq index (upper + 161) ≡ false → nat_eq index (upper + 193) ≡ false
    → nat_eq index (upper + 225) ≡ false → nat_eq (opcode word) (4 * upper + 3) ≡ false
apart index word upper small is n0 n1 n2 n3 n4 n5 n6 n7 = ne_eqb (opcode word) (4 * upper + 3) (λ same. let by = is.common (omega (arith, same)) (omega (arith, same, small)) in omega (
  arith,
  by,
  same,
  small,
  eqb-false index (upper + 1) n0,
  eqb-false index (upper + 33) n1,
  eqb-false index (upper + 65) n2,
  eqb-false index (upper + 97) n3,
  eqb-false index (upper + 129) n4,
  eqb-false index (upper + 161) n5,
  eqb-false index (upper + 193) n6,
  eqb-false index (upper + 225) n7,
))

-- and a word of none of the common opcodes is not a common word
pub uncommon : (word : ℕ) → nat_eq (opcode word) 0b0110111 ≡ false → nat_eq (opcode word) 0b0010111 ≡ false → nat_eq (opcode word) 0b1101111 ≡ false → nat_eq (opcode word) 0b1100111 ≡ false
    → nat_eq (opcode word) 0b1100011 ≡ false → nat_eq (opcode word) 0b0000011 ≡ false → nat_eq (opcode word) 0b0100011 ≡ false → nat_eq (opcode word) 0b0010011 ≡ false
    → nat_eq (opcode word) 0b0110011 ≡ false → nat_eq (opcode word) 0b0011011 ≡ false → nat_eq (opcode word) 0b0111011 ≡ false → None ≡ common_op_of word
unfolding common_op_of op_of
uncommon word lui auipc jal jalr branch load store immediate register word_immediate word_register =
    rw (lui, auipc, jal, jalr, branch, load, store, immediate, register, word_immediate, word_register)
    (by (nat_eq (opcode word) 0b0001111) (nat_eq (opcode word) 0b0101111) (nat_eq (opcode word) 0b1110011))
  where
    by : (fence atomic system : Bool) → None ≡ cond (not (fence || (atomic || system))) (cond fence (fence_of word) (cond atomic (atomic_of word) (cond system (system_of word) None))) None
    by true atomic system = refl
    by false true system = refl
    by false false true = refl
    by false false false = refl

-- an index of one of the opcodes without a funct3 is of that instruction
of_opcode : (index word upper : ℕ) → IsIndex index word → index < 256 → index % 32 ≡ upper + 1 → upper < 31 → opcode word ≡ 4 * upper + 3
of_opcode index word upper is most at small = omega (arith, opcode_at index word is most (omega (arith, at)), at, small)

pub at_load_upper : (index word : ℕ) → IsIndex index word → index < 256 → index % 32 ≡ 14 → Some (Lui (rd word) (u_immediate word)) ≡ common_op_of word
unfolding common_op_of op_of
at_load_upper index word is most at = rw (of_opcode index word 13 is most at (omega arith)) refl

pub at_add_upper : (index word : ℕ) → IsIndex index word → index < 256 → index % 32 ≡ 6 → Some (Auipc (rd word) (u_immediate word)) ≡ common_op_of word
unfolding common_op_of op_of
at_add_upper index word is most at = rw (of_opcode index word 5 is most at (omega arith)) refl

pub at_jump : (index word : ℕ) → IsIndex index word → index < 256 → index % 32 ≡ 28 → Some (Jal (rd word) (j_immediate word)) ≡ common_op_of word
unfolding common_op_of op_of
at_jump index word is most at = rw (of_opcode index word 27 is most at (omega arith)) refl
