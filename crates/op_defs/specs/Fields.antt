-- The fields of a word, and the immediates of the formats (Unprivileged ISA 20191213, 2.2 and 2.3).
use Rattle.std.specs.Prelude.{ℕ, ◌+◌, ◌*◌, ◌^◌}
use Rattle.arch_defs.specs.Bits.{field, sign_extend}

abbrev pub opcode : ℕ → ℕ
opcode word = field 0 7 word

abbrev pub rd : ℕ → ℕ
rd word = field 7 5 word

abbrev pub rs1 : ℕ → ℕ
rs1 word = field 15 5 word

abbrev pub rs2 : ℕ → ℕ
rs2 word = field 20 5 word

abbrev pub funct3 : ℕ → ℕ
funct3 word = field 12 3 word

abbrev pub funct7 : ℕ → ℕ
funct7 word = field 25 7 word

abbrev pub i_immediate : ℕ → ℕ
i_immediate word = sign_extend 12 (field 20 12 word)

abbrev pub s_immediate : ℕ → ℕ
s_immediate word = sign_extend 12 (field 25 7 word * 2 ^ 5 + field 7 5 word)

abbrev pub b_immediate : ℕ → ℕ
b_immediate word =
    sign_extend 13 (field 31 1 word * 2 ^ 12 + field 7 1 word * 2 ^ 11 + field 25 6 word * 2 ^ 5
    + field 8 4 word * 2)

abbrev pub u_immediate : ℕ → ℕ
u_immediate word = sign_extend 32 (field 12 20 word * 2 ^ 12)

abbrev pub j_immediate : ℕ → ℕ
j_immediate word =
    sign_extend 21 (field 31 1 word * 2 ^ 20 + field 12 8 word * 2 ^ 12 + field 20 1 word * 2 ^ 11
    + field 21 10 word * 2)
