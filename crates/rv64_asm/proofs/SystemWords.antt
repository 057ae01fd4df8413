-- A word of opcode SYSTEM is the word of its op, group by group.
use Rattle.std.proofs.Common.{◌≡◌, ℕ, ◌+◌, ◌*◌, ◌^◌, ◌<◌, Bool, true, false, refl, sym, ◌∙◌, arith, if◌then◌else◌}
use Rattle.std.specs.Prelude.{◌==◌}
use Rattle.std.proofs.lemmas.Bool.{eqb-true, eqb-false}
use Rattle.arch_defs.specs.Bits.{field}
use Rattle.arch_defs.specs.declared.widths.Width.{Width}
use Rattle.arch_defs.specs.declared.widths.Width.TheVariants as width
use Rattle.op_defs.specs.declared.ops.CsrOp.TheVariants as csr
use Rattle.op_defs.specs.declared.ops.Op.{Op}
use Rattle.op_defs.specs.declared.ops.Op.TheVariants as op
use Rattle.op_defs.specs.Fields.{opcode, rd, rs1, rs2, funct3, funct7}
use Rattle.op_defs.specs.Table.{is_system, system_of, system_op_of, fence_op_of, guest_access_of, guest_load_of, guest_load_by, guest_store_of, csr_of, csr_op_of}
use Rattle.rv64_asm.specs.Laws.{SystemHasOneWord}
use Rattle.rv64_asm.specs.Words.{encoded, r_word, i_word, csr_word, csr_code, width_code, guest_load_rs2}
use Rattle.rv64_asm.proofs.Decoded.{Each, none, some, tested}
use Rattle.rv64_asm.proofs.TableBack.{at_system}

-- a word of 32 bits of opcode SYSTEM
record System (w : ℕ) : Type 0 where
  small : w < 2 ^ 32
  opcode : field 0 7 w ≡ 0b1110011

abbrev IsWordOf : ℕ → Op → Type 0
IsWordOf w o = encoded o ≡ w

-- either branch of a test, by the test
branched : {A : Type 0} (P : A → Type 0) (test : Bool) (x y : A) → (test ≡ true → P x) → (test ≡ false → P y)
    → P (if test then x else y)
branched P true x y h k = h refl
branched P false x y h k = k refl

-- its fields make it up
r_word_is : (w b c e f : ℕ) → System w → rd w ≡ b → funct3 w ≡ c → rs2 w ≡ e → funct7 w ≡ f
    → r_word 0b1110011 b c (rs1 w) e f ≡ w
unfolding r_word
r_word_is w b c e f s h i j k = let small : w < 2 ^ 32 = s.small in let o : field 0 7 w ≡ 0b1110011 = s.opcode in omega arith

i_word_is : (w c : ℕ) → System w → funct3 w ≡ c → i_word 0b1110011 (rd w) c (rs1 w) (field 20 12 w) ≡ w
unfolding i_word
i_word_is w c s h = let small : w < 2 ^ 32 = s.small in let o : field 0 7 w ≡ 0b1110011 = s.opcode in omega arith

-- the single words and the fences
of_fence_op : (w : ℕ) → System w → rd w ≡ 0 → funct3 w ≡ 0 → Each (IsWordOf w) (fence_op_of w)
unfolding fence_op_of encoded
of_fence_op w s z c =
    tested (IsWordOf w) (funct7 w == 0b0001001) _ _ (λ e. some (IsWordOf w) (op.SfenceVma (rs1 w) (rs2 w)) (is 0b0001001 e))
    (λ _. tested (IsWordOf w) (funct7 w == 0b0010001) _ _ (λ e. some (IsWordOf w) (op.HfenceVvma (rs1 w) (rs2 w)) (is 0b0010001 e))
    (λ _. tested (IsWordOf w) (funct7 w == 0b0110001) _ _ (λ e. some (IsWordOf w) (op.HfenceGvma (rs1 w) (rs2 w)) (is 0b0110001 e))
    (λ _. none (IsWordOf w))))
  where
    is : (f : ℕ) → (funct7 w == f) ≡ true → r_word 0b1110011 0 0 (rs1 w) (rs2 w) f ≡ w
    is f e = r_word_is w 0 0 (rs2 w) f s z c refl (eqb-true (funct7 w) f e)

of_privileged : (w : ℕ) → System w → funct3 w ≡ 0 → Each (IsWordOf w) (system_op_of w)
unfolding system_op_of encoded
of_privileged w s c =
    tested (IsWordOf w) (w == 0x00000073) _ _ (λ e. some (IsWordOf w) op.Ecall (sym (eqb-true w 0x00000073 e)))
    (λ _. tested (IsWordOf w) (w == 0x00100073) _ _ (λ e. some (IsWordOf w) op.Ebreak (sym (eqb-true w 0x00100073 e)))
    (λ _. tested (IsWordOf w) (w == 0x10200073) _ _ (λ e. some (IsWordOf w) op.Sret (sym (eqb-true w 0x10200073 e)))
    (λ _. tested (IsWordOf w) (w == 0x10500073) _ _ (λ e. some (IsWordOf w) op.Wfi (sym (eqb-true w 0x10500073 e)))
    (λ _. tested (IsWordOf w) (rd w == 0) _ _ (λ e. of_fence_op w s (eqb-true (rd w) 0 e) c) (λ _. none (IsWordOf w))))))

-- HLV, HLVX and HSV
of_guest_load_by : (t : Width) (w : ℕ) → System w → funct3 w ≡ 4 → funct7 w ≡ 0b0110000 + width_code t * 2
    → Each (IsWordOf w) (guest_load_by t w)
unfolding guest_load_by encoded guest_load_rs2
of_guest_load_by t w s c f =
    tested (IsWordOf w) (rs2 w == 0) _ _ (λ e. some (IsWordOf w) (op.GuestLoad t true (rd w) (rs1 w)) (is 0 e))
    (λ _. tested (IsWordOf w) (rs2 w == 1) _ _ (λ e. some (IsWordOf w) (op.GuestLoad t false (rd w) (rs1 w)) (is 1 e))
    (λ _. tested (IsWordOf w) (rs2 w == 3) _ _ (λ e. some (IsWordOf w) (op.GuestFetch t (rd w) (rs1 w)) (is 3 e))
    (λ _. none (IsWordOf w))))
  where
    is : (n : ℕ) → (rs2 w == n) ≡ true → r_word 0b1110011 (rd w) 4 (rs1 w) n (0b0110000 + width_code t * 2) ≡ w
    is n e = r_word_is w (rd w) 4 n (0b0110000 + width_code t * 2) s refl c (eqb-true (rs2 w) n e) f

of_guest_load : (w : ℕ) → System w → funct3 w ≡ 4 → Each (IsWordOf w) (guest_load_of w)
unfolding guest_load_of width_code
of_guest_load w s c =
    tested (IsWordOf w) (funct7 w == 0b0110000) _ _
    (λ e. tested (IsWordOf w) (rs2 w == 3) _ _ (λ _. none (IsWordOf w))
    (λ _. of_guest_load_by width.Byte w s c (eqb-true (funct7 w) 0b0110000 e)))
    (λ _. tested (IsWordOf w) (funct7 w == 0b0110010) _ _ (λ e. of_guest_load_by width.Half w s c (eqb-true (funct7 w) 0b0110010 e))
    (λ _. tested (IsWordOf w) (funct7 w == 0b0110100) _ _ (λ e. of_guest_load_by width.Word w s c (eqb-true (funct7 w) 0b0110100 e))
    (λ _. tested (IsWordOf w) (funct7 w == 0b0110110) _ _
    (λ e. tested (IsWordOf w) (rs2 w == 0) _ _ (λ _. of_guest_load_by width.Double w s c (eqb-true (funct7 w) 0b0110110 e))
    (λ _. none (IsWordOf w)))
    (λ _. none (IsWordOf w)))))

of_guest_store : (w : ℕ) → System w → funct3 w ≡ 4 → rd w ≡ 0 → Each (IsWordOf w) (guest_store_of w)
unfolding guest_store_of encoded width_code
of_guest_store w s c z =
    tested (IsWordOf w) (funct7 w == 0b0110001) _ _ (λ e. some (IsWordOf w) (op.GuestStore width.Byte (rs1 w) (rs2 w)) (is 0b0110001 e))
    (λ _. tested (IsWordOf w) (funct7 w == 0b0110011) _ _ (λ e. some (IsWordOf w) (op.GuestStore width.Half (rs1 w) (rs2 w)) (is 0b0110011 e))
    (λ _. tested (IsWordOf w) (funct7 w == 0b0110101) _ _ (λ e. some (IsWordOf w) (op.GuestStore width.Word (rs1 w) (rs2 w)) (is 0b0110101 e))
    (λ _. tested (IsWordOf w) (funct7 w == 0b0110111) _ _ (λ e. some (IsWordOf w) (op.GuestStore width.Double (rs1 w) (rs2 w)) (is 0b0110111 e))
    (λ _. none (IsWordOf w)))))
  where
    is : (f : ℕ) → (funct7 w == f) ≡ true → r_word 0b1110011 0 4 (rs1 w) (rs2 w) f ≡ w
    is f e = r_word_is w 0 4 (rs2 w) f s z c refl (eqb-true (funct7 w) f e)

of_guest_access : (w : ℕ) → System w → funct3 w ≡ 4 → Each (IsWordOf w) (guest_access_of w)
unfolding guest_access_of
of_guest_access w s c =
    tested (IsWordOf w) (field 25 1 w == 0) _ _ (λ _. of_guest_load w s c)
    (λ _. tested (IsWordOf w) (rd w == 0) _ _ (λ e. of_guest_store w s c (eqb-true (rd w) 0 e)) (λ _. none (IsWordOf w)))

-- the instructions on registers
code_of : (f : ℕ) → f < 4 → (f ≡ 0 → ⊥) → csr_code (csr_op_of f) ≡ f
unfolding csr_op_of csr_code
code_of f h z =
    branched (λ o. csr_code o ≡ f) (f == 1) csr.Write _ (λ e. sym (eqb-true f 1 e))
    (λ a. branched (λ o. csr_code o ≡ f) (f == 2) csr.Set csr.Clear (λ e. sym (eqb-true f 2 e))
    (λ b. let p : f ≡ 1 → ⊥ = eqb-false f 1 a in let q : f ≡ 2 → ⊥ = eqb-false f 2 b in omega arith))

of_csr : (w : ℕ) → System w → (funct3 w ≡ 0 → ⊥) → (funct3 w ≡ 4 → ⊥) → IsWordOf w (csr_of w)
unfolding csr_of encoded csr_word
of_csr w s a b = branched (IsWordOf w) (field 14 1 w == 0) _ _
    (λ e. i_word_is w _ s (by_register (eqb-true (field 14 1 w) 0 e)))
    (λ e. i_word_is w _ s (by_immediate (eqb-false (field 14 1 w) 0 e)))
  where
    by_register : field 14 1 w ≡ 0 → funct3 w ≡ csr_code (csr_op_of (field 12 2 w))
    by_register e = let code : csr_code (csr_op_of (field 12 2 w)) ≡ field 12 2 w = code_of (field 12 2 w) (omega arith) (λ z. a (omega arith)) in
        let same : funct3 w ≡ field 12 2 w = omega arith in same ∙ sym code

    by_immediate : (field 14 1 w ≡ 0 → ⊥) → funct3 w ≡ csr_code (csr_op_of (field 12 2 w)) + 0b100
    by_immediate e = let code : csr_code (csr_op_of (field 12 2 w)) ≡ field 12 2 w = code_of (field 12 2 w) (omega arith) (λ z. b (omega arith)) in
        let same : funct3 w ≡ field 12 2 w + 0b100 = omega arith in rw code same

of_system : (w : ℕ) → System w → Each (IsWordOf w) (system_of w)
unfolding system_of
of_system w s =
    tested (IsWordOf w) (funct3 w == 0) _ _ (λ e. of_privileged w s (eqb-true (funct3 w) 0 e))
    (λ a. tested (IsWordOf w) (funct3 w == 4) _ _ (λ e. of_guest_access w s (eqb-true (funct3 w) 4 e))
    (λ b. some (IsWordOf w) (csr_of w) (of_csr w s (eqb-false (funct3 w) 0 a) (eqb-false (funct3 w) 4 b))))

pub has_one_word : SystemHasOneWord
unfolding is_system
has_one_word w o small is e =
    let at : opcode w ≡ 0b1110011 = eqb-true (opcode w) 0b1110011 is in
    (of_system w (record { small = small; opcode = at })).each o (sym (at_system w at) ∙ e)
