-- Instructions by their ops: one that the mode refuses, whatever it asks for, and one on a register.
use Rattle.std.proofs.Common.{◌≡◌, ℕ, List, Some, refl, sym}
use Rattle.arch_defs.specs.declared.csr_names.CsrEnd.{CsrEnd}
use Rattle.arch_defs.specs.declared.first.FirstEntry.{FirstEntry}
use Rattle.arch_defs.specs.declared.hart_states.HartState.{HartState}
use Rattle.arch_defs.specs.FirstEntries.{all_filled}
use Rattle.arch_defs.specs.Traps.{exception}
use Rattle.op_defs.specs.declared.ops.CsrOp.{CsrOp}
use Rattle.op_defs.specs.declared.ops.CsrSource.{CsrSource}
use Rattle.op_defs.specs.declared.ops.Effect.{Effect}
use Rattle.op_defs.specs.declared.ops.Effect.TheVariants.{Sets, Raises as RaisesException, Data, Calls, Privileged}
use Rattle.op_defs.specs.declared.ops.Op.TheVariants.{Csr}
use Rattle.op_defs.specs.Meaning.{meaning, operand_of, writes}
use Rattle.machine_defs.specs.Privileges.{csr_accessed, privileged, refusal, refusal_code}
use Rattle.privileged_ops.specs.PrivilegedEnds.{effect_refusal}
use Rattle.rv64_hart.specs.Endings.{attempt_with}
use Rattle.rv64_hart.specs.Steps.{Attempt, Raises, attempt_of, caching_found}

pub refused_ends : (found : List FirstEntry) (s : HartState) (memory : List ℕ) (word : ℕ) (effect : Effect) (end : CsrEnd)
    → Some end ≡ effect_refusal effect s.virt.csrs.hstatus s.virt.mode
    → attempt_with found s memory word effect ≡ Raises (exception s.virt.mode (refusal_code end) word)
unfolding privileged
refused_ends found s memory word (Sets rd value next) end is = absurd cc
refused_ends found s memory word (RaisesException cause tval) end is = absurd cc
refused_ends found s memory word (Data wanted) end is = absurd cc
refused_ends found s memory word Calls end is = absurd cc
refused_ends found s memory word (Privileged effect) end is = rw (sym is) refl

pub register_ends : (found : List FirstEntry) (s : HartState) (memory : List ℕ) (word : ℕ) (op : CsrOp) (source : CsrSource) (rd number : ℕ) (r : Attempt)
    → attempt_of (caching_found s found) memory (csr_accessed s.virt word op number (operand_of source s.virt.regs) (writes op source) rd) ≡ r
    → attempt_with found s memory word (meaning (Csr op source rd number) s.virt.regs) ≡ r
unfolding meaning privileged refusal all_filled
register_ends found s memory word op source rd number r ends = ends
