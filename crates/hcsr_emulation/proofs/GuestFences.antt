-- How an HFENCE.GVMA ends, by what the mode says of it.
use Rattle.std.proofs.Common.{◌≡◌, ℕ, None, Some, refl, subst, sym}
use Rattle.arch_defs.specs.declared.cached.Fence.{Fence}
use Rattle.arch_defs.specs.declared.csr_names.CsrEnd.{CsrEnd}
use Rattle.arch_defs.specs.declared.registers.Virtual.{Virtual}
use Rattle.arch_defs.specs.Memory.{Mmu}
use Rattle.arch_defs.specs.Registers.{passed}
use Rattle.op_defs.specs.declared.ops.Effect.{Effect}
use Rattle.op_defs.specs.declared.ops.Effect.TheVariants as effect
use Rattle.machine_defs.specs.Core.{executed}
use Rattle.machine_defs.specs.Outcomes as outcome
use Rattle.machine_defs.specs.Privileges.{privileged, refused}
use Rattle.fence_handler.specs.Requests.{fences}
use Rattle.privileged_ops.specs.PrivilegedEnds.{effect_refusal}

-- whatever it asks for, it ends by its refusal
pub refused_ends : (through : Mmu) (s : Virtual) (word : ℕ) (e : Effect) (end : CsrEnd)
    → Some end ≡ effect_refusal e s.csrs.hstatus s.mode → executed through s word e ≡ refused s word end
unfolding privileged
refused_ends through s word (effect.Privileged p) end is = rw (sym is) refl
refused_ends through s word other end is = absurd cc

-- one that is allowed names this
allowed : (through : Mmu) (s : Virtual) (word : ℕ) (fence : Fence)
    → None ≡ effect_refusal (fences fence) s.csrs.hstatus s.mode
    → executed through s word (fences fence) ≡ outcome.Fenced (passed s) fence
unfolding privileged
allowed through s word fence is = rw (sym is) refl

pub allowed_ends : (through : Mmu) (s : Virtual) (word : ℕ) (e : Effect) (fence : Fence) → e ≡ fences fence
    → None ≡ effect_refusal e s.csrs.hstatus s.mode
    → executed through s word e ≡ outcome.Fenced (passed s) fence
allowed_ends through s word e fence same is =
    subst (λ e. None ≡ effect_refusal e s.csrs.hstatus s.mode → executed through s word e ≡ outcome.Fenced (passed s) fence) (sym same) (allowed through s word fence) is
