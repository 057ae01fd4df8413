-- What instructions do, by how they end.
use Rattle.std.proofs.Common.{◌≡◌, ◌∙◌, refl, sym, ap, subst, ℕ, Option, Some, None, Bool, true, false}
use Rattle.std.specs.Prelude.{Result, Ok, Err}
use Rattle.arch_defs.specs.declared.csr_names.CsrEnd.{CsrEnd}
use Rattle.arch_defs.specs.declared.modes.Mode.{Mode}
use Rattle.arch_defs.specs.declared.modes.Mode.TheVariants.{HS, U, VS, VU}
use Rattle.arch_defs.specs.declared.registers.Csrs.{Csrs}
use Rattle.arch_defs.specs.declared.registers.Regs.{Regs}
use Rattle.arch_defs.specs.declared.registers.Virtual.{Virtual}
use Rattle.arch_defs.specs.Interrupts.{due}
use Rattle.arch_defs.specs.Memory.{Mmu}
use Rattle.op_defs.specs.declared.ops.DataAccess.{DataAccess}
use Rattle.op_defs.specs.declared.ops.Effect.{Effect}
use Rattle.op_defs.specs.declared.ops.Effect.TheVariants as effect
use Rattle.op_defs.specs.declared.ops.Op.{Op}
use Rattle.op_defs.specs.declared.ops.CsrOp.{CsrOp}
use Rattle.op_defs.specs.declared.ops.Privileged.{Privileged}
use Rattle.op_defs.specs.declared.ops.Privileged.TheVariants.{Csr, Sret, Wfi, SfenceVma, HfenceVvma, HfenceGvma, HlvAccess}
use Rattle.op_defs.specs.Meaning.{meaning}
use Rattle.machine_defs.specs.declared.events.Event.{Event}
use Rattle.machine_defs.specs.Core.{At, Completion, Failure, Fails, Faults, Located, Misses, accessed_data, at_place, called_from, core, data_place, decoded, done, executed, fetch_place, instruction, word_at}
use Rattle.machine_defs.specs.Machine.{Machine}
use Rattle.machine_defs.specs.Outcomes.{Outcome}
use Rattle.machine_defs.specs.Privileges.{csr_accessed, csr_changed, csr_shown, decided, performed, privileged}
use Rattle.machine_defs.specs.Tries.{mmu_of, outcome_under, stages_of}
use Rattle.privileged_ops.specs.PrivilegedEnds.{effect_refusal}
use Rattle.run_log.specs.Seen.{step_outcome, step_outcome_with}
use Rattle.run_log.specs.Steps.{step_word, step_word_with, word_if}
use Rattle.step_lines.specs.Acts.{act_from, act_in, effect_act, privileged_act}
use Rattle.step_lines.specs.declared.acts.Act.{Act}
use Rattle.step_lines.specs.declared.acts.Act.TheVariants.{Other}

-- an instruction that goes on at a place does what it does there, and else nothing
fails_idly : (wanted : Option DataAccess) (f : Failure) (rest : ℕ → Outcome) → act_in (Some (at_place wanted (Fails f) rest)) ≡ Other
fails_idly wanted (Faults trap) rest = refl
fails_idly wanted (Misses missing) rest = refl

-- an access to data
accesses_idly : (wanted : Option DataAccess) (event : Event) (l : Located) (rest : ℕ → Completion) → act_in (Some (at_place wanted l (λ place. done event (rest place)))) ≡ Other
accesses_idly wanted event (At place) rest = refl
accesses_idly wanted event (Fails f) rest = fails_idly wanted f (λ place. done event (rest place))

-- an instruction on a register
shown_idly : (state : Virtual) (word rd : ℕ) (read : Result ℕ CsrEnd) → act_in (Some (csr_shown state word rd read)) ≡ Other
shown_idly state word rd (Ok value) = refl
shown_idly state word rd (Err end) = refl

changed_idly : (state : Virtual) (word rd value : ℕ) (csrs : Result Csrs CsrEnd) → act_in (Some (csr_changed state word rd value csrs)) ≡ Other
changed_idly state word rd value (Ok csrs) = refl
changed_idly state word rd value (Err end) = refl

csr_idly : (state : Virtual) (word : ℕ) (op : CsrOp) (number operand : ℕ) (writes : Bool) (rd : ℕ) → act_in (Some (csr_accessed state word op number operand writes rd)) ≡ Other
csr_idly state word op number operand true rd = changed_idly state word rd _ _
csr_idly state word op number operand false rd = shown_idly state word rd _

-- what an instruction asks for that its mode allows
performed_does : (state : Virtual) (word : ℕ) (asked : Privileged) → act_in (Some (performed state word asked)) ≡ privileged_act asked
performed_does state word (Csr op number operand writes rd) = csr_idly state word op number operand writes rd
performed_does state word Sret = refl
performed_does state word Wfi = refl
performed_does state word (SfenceVma fence) = refl
performed_does state word (HfenceVvma fence) = refl
performed_does state word (HfenceGvma fence) = refl
performed_does state word (HlvAccess wanted) = refl

calls_from : (mode : Mode) → act_in (Some (called_from mode)) ≡ act_from mode
calls_from HS = refl
calls_from U = refl
calls_from VS = refl
calls_from VU = refl

executed_does : (through : Mmu) (state : Virtual) (word : ℕ) (asked : Effect) → effect_refusal asked state.csrs.hstatus state.mode ≡ None
    → act_in (Some (executed through state word asked)) ≡ effect_act state.mode asked
unfolding privileged
executed_does through state word (effect.Sets rd value next) allowed = refl
executed_does through state word (effect.Raises cause tval) allowed = refl
executed_does through state word (effect.Data wanted) allowed = accesses_idly (Some wanted) _ (data_place through state.csrs state.mode wanted) _
executed_does through state word effect.Calls allowed = calls_from state.mode
executed_does through state word (effect.Privileged asked) allowed =
    ap (λ (end : Option CsrEnd). act_in (Some (decided state word asked end))) allowed ∙ performed_does state word asked

refused_idly : (through : Mmu) (state : Virtual) (word : ℕ) (asked : Effect) (end : CsrEnd) → effect_refusal asked state.csrs.hstatus state.mode ≡ Some end
    → act_in (Some (executed through state word asked)) ≡ Other
unfolding privileged
refused_idly through state word (effect.Sets rd value next) end refused = refl
refused_idly through state word (effect.Raises cause tval) end refused = refl
refused_idly through state word (effect.Data wanted) end refused = accesses_idly (Some wanted) _ (data_place through state.csrs state.mode wanted) _
refused_idly through state word effect.Calls end refused = absurd cc
refused_idly through state word (effect.Privileged asked) end refused = ap (λ (end : Option CsrEnd). act_in (Some (decided state word asked end))) refused

-- an instruction, by whether its mode refuses it
pub allowed_does : (through : Mmu) (state : Virtual) (word : ℕ) (op : Op) → None ≡ effect_refusal (meaning op state.regs) state.csrs.hstatus state.mode
    → effect_act state.mode (meaning op state.regs) ≡ act_in (Some (decoded through state word (Some op)))
allowed_does through state word op allowed = sym (executed_does through state word (meaning op state.regs) (sym allowed))

pub refused_does_nothing : (through : Mmu) (state : Virtual) (word : ℕ) (op : Op) (end : CsrEnd) → Some end ≡ effect_refusal (meaning op state.regs) state.csrs.hstatus state.mode
    → Other ≡ act_in (Some (decoded through state word (Some op)))
refused_does_nothing through state word op end refused = sym (refused_idly through state word (meaning op state.regs) end (sym refused))

-- what a machine's next instruction does, by its word
module _ (m : Machine) where
  abbrev through : Mmu
  through = mmu_of m

  at_word : (l : Located) (word : ℕ) → word_if through.reading l ≡ Some word
      → at_place None l (λ place. instruction through m.platform.virt (word_at through.reading place)) ≡ instruction through m.platform.virt word
  at_word (At place) word is = ap (λ (w : ℕ). instruction through m.platform.virt w) cc
  at_word (Fails f) word is = absurd cc

  at_none : (l : Located) → word_if through.reading l ≡ None
      → act_in (Some (at_place None l (λ place. instruction through m.platform.virt (word_at through.reading place)))) ≡ Other
  at_none (At place) is = absurd cc
  at_none (Fails f) is = fails_idly None f _

  outcome_is : (code : Option ℕ) (word : ℕ) → step_word_with m code ≡ Some word → step_outcome_with m code ≡ Some (instruction through m.platform.virt word)
  unfolding core
  outcome_is (Some code) word is = absurd cc
  outcome_is None word is = ap Some (at_word (fetch_place through m.platform.virt) word is)

  none_is : (code : Option ℕ) → step_word_with m code ≡ None → act_in (step_outcome_with m code) ≡ Other
  unfolding core
  none_is (Some code) is = refl
  none_is None is = at_none (fetch_place through m.platform.virt) is

pub word_does : (m : Machine) (virt : Virtual) (word : ℕ) (act : Act) → m.platform.virt ≡ virt → step_word m ≡ Some word
    → ((through : Mmu) → act ≡ act_in (Some (instruction through virt word))) → act ≡ act_in (step_outcome m)
unfolding step_word step_outcome
word_does m virt word act same is does =
    does (mmu_of m) ∙ ap (λ (v : Virtual). act_in (Some (instruction (mmu_of m) v word))) (sym same)
    ∙ ap act_in (sym (outcome_is m (due m.platform.virt.csrs m.platform.virt.mode) word is))

pub no_word_does_nothing : (m : Machine) → step_word m ≡ None → Other ≡ act_in (step_outcome m)
unfolding step_word step_outcome
no_word_does_nothing m is = sym (none_is m (due m.platform.virt.csrs m.platform.virt.mode) is)
