-- The fields of a word of each format.
use Rattle.std.proofs.Common.{◌≡◌, ℕ, ◌+◌, ◌*◌, ◌/◌, ◌%◌, ◌^◌, ◌<◌, arith}
use Rattle.arch_defs.specs.Bits.{field}
use Rattle.rv64_asm.specs.Words.{r_word, i_word, s_word, b_word, u_word, j_word}

-- the fields below bit 20; the S and B formats have a part of their immediate in place of rd
pub record Low (w a b c d : ℕ) : Type 0 where
  pub opcode : field 0 7 w ≡ a
  pub rd : field 7 5 w ≡ b
  pub funct3 : field 12 3 w ≡ c
  pub rs1 : field 15 5 w ≡ d

low : (w a b c d upper : ℕ) → w ≡ a + b * 2 ^ 7 + c * 2 ^ 12 + d * 2 ^ 15 + upper * 2 ^ 20
    → a < 2 ^ 7 → b < 2 ^ 5 → c < 2 ^ 3 → d < 2 ^ 5 → Low w a b c d
low w a b c d upper e h i j k = record { opcode = omega arith; rd = omega arith; funct3 = omega arith; rs1 = omega arith }

pub record RWord (w a b c d e f : ℕ) : Type 0 where
  pub low : Low w a b c d
  pub rs2 : field 20 5 w ≡ e
  pub funct7 : field 25 7 w ≡ f

pub r_fields : (a b c d e f : ℕ) → a < 2 ^ 7 → b < 2 ^ 5 → c < 2 ^ 3 → d < 2 ^ 5 → e < 2 ^ 5 → f < 2 ^ 7
    → RWord (r_word a b c d e f) a b c d e f
unfolding r_word
r_fields a b c d e f h i j k l m = record {
  low = low (r_word a b c d e f) a b c d (e + f * 2 ^ 5) (omega arith) h i j k;
  rs2 = omega arith;
  funct7 = omega arith;
}

-- R with an amount of six bits in place of rs2, beside an even funct7
pub record ShiftWord (w a b c d e f : ℕ) : Type 0 where
  pub low : Low w a b c d
  pub amount : field 20 6 w ≡ e
  pub upper : field 26 6 w ≡ f / 2

pub shift_fields : (a b c d e f : ℕ) → a < 2 ^ 7 → b < 2 ^ 5 → c < 2 ^ 3 → d < 2 ^ 5 → e < 2 ^ 6 → f < 2 ^ 7 → f % 2 ≡ 0
    → ShiftWord (r_word a b c d e f) a b c d e f
unfolding r_word
shift_fields a b c d e f h i j k l m n = record {
  low = low (r_word a b c d e f) a b c d (e + f * 2 ^ 5) (omega arith) h i j k;
  amount = omega arith;
  upper = omega arith;
}

pub record IWord (w a b c d x : ℕ) : Type 0 where
  pub low : Low w a b c d
  pub immediate : field 20 12 w ≡ x % 2 ^ 12

pub i_fields : (a b c d x : ℕ) → a < 2 ^ 7 → b < 2 ^ 5 → c < 2 ^ 3 → d < 2 ^ 5 → IWord (i_word a b c d x) a b c d x
unfolding i_word
i_fields a b c d x h i j k = record {
  low = low (i_word a b c d x) a b c d (field 0 12 x) (omega arith) h i j k;
  immediate = omega arith;
}

pub record SWord (w a c d e x : ℕ) : Type 0 where
  pub low : Low w a (field 0 5 x) c d
  pub rs2 : field 20 5 w ≡ e
  pub immediate : field 25 7 w * 2 ^ 5 + field 7 5 w ≡ x % 2 ^ 12

pub s_fields : (a c d e x : ℕ) → a < 2 ^ 7 → c < 2 ^ 3 → d < 2 ^ 5 → e < 2 ^ 5 → SWord (s_word a c d e x) a c d e x
unfolding s_word
s_fields a c d e x h j k l = record {
  low = low (s_word a c d e x) a (field 0 5 x) c d (e + field 5 7 x * 2 ^ 5) (omega arith) h (omega arith) j k;
  rs2 = omega arith;
  immediate = omega arith;
}

-- an odd offset would lose its lowest bit
pub record BWord (w a c d e x : ℕ) : Type 0 where
  pub low : Low w a (field 11 1 x + field 1 4 x * 2) c d
  pub rs2 : field 20 5 w ≡ e
  pub immediate : x % 2 ≡ 0 → field 31 1 w * 2 ^ 12 + field 7 1 w * 2 ^ 11 + field 25 6 w * 2 ^ 5 + field 8 4 w * 2 ≡ x % 2 ^ 13

pub b_fields : (a c d e x : ℕ) → a < 2 ^ 7 → c < 2 ^ 3 → d < 2 ^ 5 → e < 2 ^ 5 → BWord (b_word a c d e x) a c d e x
unfolding b_word
b_fields a c d e x h j k l = record {
  low = low (b_word a c d e x) a (field 11 1 x + field 1 4 x * 2) c d (e + field 5 6 x * 2 ^ 5 + field 12 1 x * 2 ^ 11)
      (omega arith) h (omega arith) j k;
  rs2 = omega arith;
  immediate = λ m. omega arith;
}

pub record UWord (w a b x : ℕ) : Type 0 where
  pub opcode : field 0 7 w ≡ a
  pub rd : field 7 5 w ≡ b
  pub immediate : x % 4096 ≡ 0 → field 12 20 w * 2 ^ 12 ≡ x % 2 ^ 32

pub u_fields : (a b x : ℕ) → a < 2 ^ 7 → b < 2 ^ 5 → UWord (u_word a b x) a b x
unfolding u_word
u_fields a b x h i = record { opcode = omega arith; rd = omega arith; immediate = λ m. omega arith }

pub record JWord (w a b x : ℕ) : Type 0 where
  pub opcode : field 0 7 w ≡ a
  pub rd : field 7 5 w ≡ b
  pub immediate : x % 2 ≡ 0 → field 31 1 w * 2 ^ 20 + field 12 8 w * 2 ^ 12 + field 20 1 w * 2 ^ 11 + field 21 10 w * 2 ≡ x % 2 ^ 21

pub j_fields : (a b x : ℕ) → a < 2 ^ 7 → b < 2 ^ 5 → JWord (j_word a b x) a b x
unfolding j_word
j_fields a b x h i = record { opcode = omega arith; rd = omega arith; immediate = λ m. omega arith }
