-- The instruction on a control and status register that a word is.
use Rattle.std.proofs.Common.{cond, ◌≡◌, ◌≢◌, ℕ, ◌∙◌, Bool, true, false, List, Some, refl, ap, arith}
use Rattle.std.specs.Prelude.{◌==◌}
use Rattle.std.proofs.lemmas.Bool.{eqb-true, ne_eqb}
use Rattle.arch_defs.specs.declared.first.FirstEntry.{FirstEntry}
use Rattle.arch_defs.specs.declared.hart_states.HartState.{HartState}
use Rattle.arch_defs.specs.Bits.{field}
use Rattle.op_defs.specs.declared.ops.CsrSource.TheVariants as source
use Rattle.op_defs.specs.declared.ops.Op.TheVariants.{Csr}
use Rattle.op_defs.specs.Fields.{funct3, opcode, rd, rs1}
use Rattle.op_defs.specs.Table.{csr_of, csr_op_of, is_system, op_of, system_of}
use Rattle.rv64_hart.specs.CsrWords.{csr_asked, csr_source}
use Rattle.rv64_hart.specs.Endings.{attempt_at}
use Rattle.rv64_hart.specs.Steps.{Attempt, attempt_of, caching_found}
use Rattle.rv64_hart.proofs.FirstFound.{op_ends}
use Rattle.rv64_hart.proofs.Refusals.{register_ends}

csr_word : (word : ℕ) → is_system word ≡ true → field 12 2 word ≢ 0 → op_of word ≡ Some (csr_of word)
unfolding op_of system_of is_system
csr_word word system some = rw (
  eqb-true (opcode word) 0b1110011 system,
  ne_eqb (funct3 word) 0 (λ is. some (omega (arith, is))),
  ne_eqb (funct3 word) 4 (λ is. some (omega (arith, is))),
) refl

by_source : (word : ℕ) → csr_of word ≡ Csr (csr_op_of (field 12 2 word)) (csr_source word) (rd word) (field 20 12 word)
unfolding csr_of
by_source word = by (field 14 1 word == 0)
  where
    by : (b : Bool) → cond b (Csr (csr_op_of (field 12 2 word)) (source.Register (rs1 word)) (rd word) (field 20 12 word)) (Csr (csr_op_of (field 12 2 word)) (source.Immediate (rs1 word)) (rd word) (field 20 12 word))
        ≡ Csr (csr_op_of (field 12 2 word)) (cond b (source.Register (rs1 word)) (source.Immediate (rs1 word))) (rd word) (field 20 12 word)
    by true = refl
    by false = refl

pub csr_ends : (found : List FirstEntry) (s : HartState) (memory : List ℕ) (word : ℕ) (r : Attempt) → is_system word ≡ true → field 12 2 word ≢ 0
    → attempt_of (caching_found s found) memory (csr_asked s.virt word) ≡ r → attempt_at found s memory word ≡ r
csr_ends found s memory word r system some ends =
    op_ends found s memory word (Csr (csr_op_of (field 12 2 word)) (csr_source word) (rd word) (field 20 12 word)) _ r (csr_word word system some ∙ ap Some (by_source word)) refl
    (register_ends found s memory word (csr_op_of (field 12 2 word)) (csr_source word) (rd word) (field 20 12 word) r ends)
