-- A fence of the first stage leaves the registers and the mode.
use Rattle.std.specs.Prelude.{Result, Ok, Err}
use Rattle.std.proofs.Common.{◌≡◌, ℕ, Bool, true, false, Option, Some, None, refl}
use Rattle.arch_defs.specs.declared.csr_names.CsrEnd.{CsrEnd}
use Rattle.arch_defs.specs.declared.registers.Csrs.{Csrs}
use Rattle.arch_defs.specs.declared.registers.Virtual.{Virtual}
use Rattle.arch_defs.specs.CsrAccess.{read_csr, write_csr}
use Rattle.op_defs.specs.declared.ops.CsrOp.{CsrOp}
use Rattle.op_defs.specs.declared.ops.Privileged.{Privileged}
use Rattle.op_defs.specs.declared.ops.Privileged.TheVariants.{Csr, Sret, Wfi, SfenceVma, HfenceVvma, HfenceGvma, HlvAccess}
use Rattle.machine_defs.specs.Outcomes.{Outcome, Done, Trapped, Missed, Called, Waits, Fenced, FirstFenced, Accesses}
use Rattle.machine_defs.specs.Privileges.{combined, csr_accessed, csr_changed, csr_shown, decided, performed, privileged, refusal, value_or_zero}

abbrev pub FenceKeeps : Virtual → Outcome → Type 0
FenceKeeps s (Done after stored event) = Unit {0}
FenceKeeps s (Trapped trap) = Unit {0}
FenceKeeps s (Missed missing wanted) = Unit {0}
FenceKeeps s Called = Unit {0}
FenceKeeps s (Waits after) = Unit {0}
FenceKeeps s (Fenced after fence) = Unit {0}
FenceKeeps s (FirstFenced after named fence) = (after.csrs ≡ s.csrs) × (after.mode ≡ s.mode)
FenceKeeps s (Accesses wanted) = Unit {0}

shown_keeps : (s : Virtual) (word rd : ℕ) (value : Result ℕ CsrEnd) → FenceKeeps s (csr_shown s word rd value)
shown_keeps s word rd (Ok value) = tt
shown_keeps s word rd (Err end) = tt

changed_keeps : (s : Virtual) (word rd value : ℕ) (csrs : Result Csrs CsrEnd) → FenceKeeps s (csr_changed s word rd value csrs)
changed_keeps s word rd value (Ok csrs) = tt
changed_keeps s word rd value (Err end) = tt

accessed_keeps : (s : Virtual) (word : ℕ) (o : CsrOp) (number operand : ℕ) (writes : Bool) (rd : ℕ) → FenceKeeps s (csr_accessed s word o number operand writes rd)
accessed_keeps s word o number operand true rd =
    let before = value_or_zero (read_csr s.csrs s.mode number) in
    changed_keeps s word rd before (write_csr s.csrs s.mode number (combined o before operand))
accessed_keeps s word o number operand false rd = shown_keeps s word rd (read_csr s.csrs s.mode number)

performed_keeps : (s : Virtual) (word : ℕ) (p : Privileged) → FenceKeeps s (performed s word p)
performed_keeps s word (Csr o number operand writes rd) = accessed_keeps s word o number operand writes rd
performed_keeps s word Sret = tt
performed_keeps s word Wfi = tt
performed_keeps s word (SfenceVma fence) = (refl, refl)
performed_keeps s word (HfenceVvma fence) = (refl, refl)
performed_keeps s word (HfenceGvma fence) = tt
performed_keeps s word (HlvAccess wanted) = tt

pub fence_keeps : (s : Virtual) (word : ℕ) (p : Privileged) → FenceKeeps s (privileged s word p)
unfolding privileged
fence_keeps s word p = by (refusal p s.csrs.hstatus s.mode)
  where
    by : (refusal : Option CsrEnd) → FenceKeeps s (decided s word p refusal)
    by (Some end) = tt
    by None = performed_keeps s word p
