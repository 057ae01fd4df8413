-- An instruction hands its state's first-stage translations through.
use Rattle.std.specs.Prelude.{Result, Ok, Err}
use Rattle.std.proofs.Common.{◌≡◌, ℕ, Bool, true, false, Option, Some, None, refl, ap}
use Rattle.arch_defs.specs.declared.csr_names.CsrEnd.{CsrEnd}
use Rattle.arch_defs.specs.declared.modes.Mode.{Mode}
use Rattle.arch_defs.specs.declared.modes.Mode.TheVariants.{HS, U, VS, VU}
use Rattle.arch_defs.specs.declared.registers.Csrs.{Csrs}
use Rattle.arch_defs.specs.declared.registers.Virtual.{Virtual}
use Rattle.arch_defs.specs.CsrAccess.{read_csr, write_csr}
use Rattle.arch_defs.specs.Memory.{Mmu}
use Rattle.op_defs.specs.declared.ops.CsrOp.{CsrOp}
use Rattle.op_defs.specs.declared.ops.DataAccess.{DataAccess}
use Rattle.op_defs.specs.declared.ops.Effect.{Effect}
use Rattle.op_defs.specs.declared.ops.Effect.TheVariants.{Sets, Raises, Data, Calls, Privileged as Decides}
use Rattle.op_defs.specs.declared.ops.Op.{Op}
use Rattle.op_defs.specs.declared.ops.Privileged.{Privileged}
use Rattle.op_defs.specs.declared.ops.Privileged.TheVariants.{Csr, Sret, Wfi, SfenceVma, HfenceVvma, HfenceGvma, HlvAccess}
use Rattle.op_defs.specs.Meaning.{meaning}
use Rattle.machine_defs.specs.declared.events.Event.{Event}
use Rattle.machine_defs.specs.Core.{accessed_data, called_from, completed, data_place, decoded, done, event_of, executed}
use Rattle.machine_defs.specs.Outcomes.{Outcome}
use Rattle.machine_defs.specs.Privileges.{combined, csr_accessed, csr_changed, csr_shown, decided, performed, privileged, refusal, value_or_zero}
use Rattle.instruction_laws.specs.InstructionEnds.{OutcomeHas}
use Rattle.instruction_laws.proofs.Completions.{at_each, completed_same}

-- however it ends
abbrev pub KeepsFirst : Virtual → Outcome → Type 0
KeepsFirst s o = OutcomeHas (λ completion. completion.state.first ≡ s.first) (λ state. state.first ≡ s.first) (λ wanted. Unit {0}) o

shown_first : (s : Virtual) (word rd : ℕ) (value : Result ℕ CsrEnd) → KeepsFirst s (csr_shown s word rd value)
shown_first s word rd (Ok value) = refl
shown_first s word rd (Err end) = tt

changed_first : (s : Virtual) (word rd value : ℕ) (csrs : Result Csrs CsrEnd) → KeepsFirst s (csr_changed s word rd value csrs)
changed_first s word rd value (Ok csrs) = refl
changed_first s word rd value (Err end) = tt

pub csr_first : (s : Virtual) (word : ℕ) (o : CsrOp) (number operand : ℕ) (writes : Bool) (rd : ℕ) → KeepsFirst s (csr_accessed s word o number operand writes rd)
csr_first s word o number operand true rd = let before = value_or_zero (read_csr s.csrs s.mode number) in
    changed_first s word rd before (write_csr s.csrs s.mode number (combined o before operand))
csr_first s word o number operand false rd = shown_first s word rd (read_csr s.csrs s.mode number)

performed_first : (s : Virtual) (word : ℕ) (p : Privileged) → KeepsFirst s (performed s word p)
performed_first s word (Csr o number operand writes rd) = csr_first s word o number operand writes rd
performed_first s word Sret = refl
performed_first s word Wfi = refl
performed_first s word (SfenceVma fence) = refl
performed_first s word (HfenceVvma fence) = refl
performed_first s word (HfenceGvma fence) = refl
performed_first s word (HlvAccess wanted) = tt

pub privileged_first : (s : Virtual) (word : ℕ) (p : Privileged) → KeepsFirst s (privileged s word p)
unfolding privileged
privileged_first s word p = by (refusal p s.csrs.hstatus s.mode)
  where
    by : (refusal : Option CsrEnd) → KeepsFirst s (decided s word p refusal)
    by (Some end) = tt
    by None = performed_first s word p

called_first : (s : Virtual) (mode : Mode) → KeepsFirst s (called_from mode)
called_first s HS = tt
called_first s U = tt
called_first s VS = tt
called_first s VU = tt

accessed_data_first : (s : Virtual) (through : Mmu) (event : Event) (wanted : DataAccess) → KeepsFirst s (accessed_data through s event wanted)
accessed_data_first s through event wanted =
    at_each (KeepsFirst s) (Some wanted) (λ place. done event (completed through.reading s wanted.width wanted.purpose place)) (λ trap. tt) (λ missing. tt) same
    (data_place through s.csrs s.mode wanted)
  where
    same : (place : ℕ) → KeepsFirst s (done event (completed through.reading s wanted.width wanted.purpose place))
    same place = ap (λ (v : Virtual). v.first) (completed_same through.reading s wanted.width wanted.purpose place)

executed_first : (s : Virtual) (through : Mmu) (word : ℕ) (effect : Effect) → KeepsFirst s (executed through s word effect)
executed_first s through word (Sets rd value next) = refl
executed_first s through word (Raises cause tval) = tt
executed_first s through word (Data wanted) = accessed_data_first s through (event_of s.regs.pc word) wanted
executed_first s through word Calls = called_first s s.mode
executed_first s through word (Decides effect) = privileged_first s word effect

pub decoded_first : (s : Virtual) (through : Mmu) (word : ℕ) (o : Option Op) → KeepsFirst s (decoded through s word o)
decoded_first s through word (Some o) = executed_first s through word (meaning o s.regs)
decoded_first s through word None = tt
