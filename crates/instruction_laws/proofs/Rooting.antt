-- hgatp under one instruction: with V = 1 none changes it, and a fence changes neither it nor the mode.
use Rattle.std.specs.Prelude.{Result, Ok, Err, nat_le}
use Rattle.std.proofs.Common.{cond, ◌≡◌, ℕ, Bool, true, false, Option, Some, None, refl, ap}
use Rattle.arch_defs.specs.declared.csr_names.SupervisorCsr.TheVariants.{Status, Tvec, Scratch, Epc, Cause, Tval, Atp}
use Rattle.arch_defs.specs.declared.csr_names.EnableCsr.TheVariants.{Scounteren, Senvcfg, Hcounteren, Henvcfg}
use Rattle.arch_defs.specs.declared.csr_names.CsrEnd.{CsrEnd}
use Rattle.arch_defs.specs.declared.csr_names.CsrEnd.TheVariants.{Illegal, Virtual as VirtualInstruction}
use Rattle.arch_defs.specs.declared.csr_names.InterruptCsr.TheVariants.{Sie, Sip, Vsie, Vsip, Hideleg, Hie, Hip, Hvip}
use Rattle.arch_defs.specs.declared.csr_names.Register.{Register}
use Rattle.arch_defs.specs.declared.csr_names.Register.TheVariants.{Supervisor, VirtualSupervisor, Interrupt, Enable, Hypervisor, Time, GuestTime}
use Rattle.arch_defs.specs.declared.cached.Fence.{Fence}
use Rattle.arch_defs.specs.declared.modes.Mode.{Mode}
use Rattle.arch_defs.specs.declared.modes.Mode.TheVariants.{HS, U, VS, VU}
use Rattle.arch_defs.specs.declared.registers.Csrs.{Csrs}
use Rattle.arch_defs.specs.declared.registers.Regs.{Regs}
use Rattle.arch_defs.specs.declared.registers.Virtual.{Virtual}
use Rattle.arch_defs.specs.CsrAccess.{enable_written, interrupts_written, named_to_write, reached, reached_by, reached_in_vs, reached_in_vu, read_csr, write_csr, written, written_by}
use Rattle.arch_defs.specs.CsrNames.{register_of}
use Rattle.arch_defs.specs.Memory.{Memory, Mmu, ram_memory, reading_of}
use Rattle.arch_defs.specs.Traps.{is_virtual, returned}
use Rattle.op_defs.specs.declared.ops.CsrOp.{CsrOp}
use Rattle.op_defs.specs.declared.ops.Effect.{Effect}
use Rattle.op_defs.specs.declared.ops.Effect.TheVariants.{Sets, Raises, Data, Calls, Privileged as Decides}
use Rattle.op_defs.specs.declared.ops.DataAccess.{DataAccess}
use Rattle.op_defs.specs.declared.ops.Op.{Op}
use Rattle.op_defs.specs.declared.ops.Privileged.{Privileged}
use Rattle.op_defs.specs.declared.ops.Privileged.TheVariants.{Csr, Sret, Wfi, SfenceVma, HfenceVvma, HfenceGvma, HlvAccess}
use Rattle.op_defs.specs.Meaning.{meaning}
use Rattle.op_defs.specs.Table.{op_of}
use Rattle.machine_defs.specs.declared.events.Event.{Event}
use Rattle.machine_defs.specs.Outcomes.{Outcome}
use Rattle.machine_defs.specs.Core.{Completion, accessed_data, called_from, completed, core, data_place, decoded, done, event_of, executed, fetch_place, instruction, word_at}
use Rattle.machine_defs.specs.HlvAccesses.{hlv_outcome}
use Rattle.machine_defs.specs.Machine.{Machine, Tried, with_first}
use Rattle.machine_defs.specs.Privileges.{combined, csr_accessed, csr_changed, csr_shown, decided, performed, privileged, refusal, value_or_zero}
use Rattle.machine_defs.specs.Tries.{Stages, fence_under, mmu_under, try_under}
use Rattle.instruction_laws.specs.InstructionEnds.{HlvHas, OutcomeHas}
use Rattle.instruction_laws.proofs.Cached.{either}
use Rattle.instruction_laws.proofs.Completions.{at_each, completed_same, hlv_each}
use Rattle.instruction_laws.proofs.TryEnds.{TryEnd, try_end}

-- both are left as they are
abbrev pub KeepsModeAndRoot : Virtual → Virtual → Type 0
KeepsModeAndRoot s after = (after.mode ≡ s.mode) × (after.csrs.hgatp ≡ s.csrs.hgatp)

-- an instruction that completes leaves hgatp with V = 1, and one that waits or fences leaves both
abbrev pub LeavesRoot : Virtual → Completion → Type 0
LeavesRoot s completion = is_virtual s.mode ≡ true → completion.state.csrs.hgatp ≡ s.csrs.hgatp

abbrev pub KeepsRoot : Virtual → Outcome → Type 0
KeepsRoot s o = OutcomeHas (LeavesRoot s) (KeepsModeAndRoot s) (λ wanted. Unit {0}) o

-- a write of a register but those of the hypervisor's own row
abbrev IsOther : Result Register CsrEnd → Type 0
IsOther (Ok (Hypervisor r)) = ⊥
IsOther (Ok (Supervisor r)) = Unit {0}
IsOther (Ok (VirtualSupervisor r)) = Unit {0}
IsOther (Ok (Interrupt r)) = Unit {0}
IsOther (Ok (Enable r)) = Unit {0}
IsOther (Ok Time) = Unit {0}
IsOther (Ok GuestTime) = Unit {0}
IsOther (Err end) = Unit {0}

vs_other : (csrs : Csrs) (r : Register) → IsOther (reached_in_vs csrs r)
unfolding reached_in_vs
vs_other csrs (Supervisor Status) = tt
vs_other csrs (Supervisor Tvec) = tt
vs_other csrs (Supervisor Scratch) = tt
vs_other csrs (Supervisor Epc) = tt
vs_other csrs (Supervisor Cause) = tt
vs_other csrs (Supervisor Tval) = tt
vs_other csrs (Supervisor Atp) = either IsOther csrs.hstatus.vtvm (Err VirtualInstruction) (Ok (VirtualSupervisor Atp)) tt tt
vs_other csrs (VirtualSupervisor r) = tt
vs_other csrs (Interrupt Sie) = tt
vs_other csrs (Interrupt Sip) = tt
vs_other csrs (Interrupt Vsie) = tt
vs_other csrs (Interrupt Vsip) = tt
vs_other csrs (Interrupt Hideleg) = tt
vs_other csrs (Interrupt Hie) = tt
vs_other csrs (Interrupt Hip) = tt
vs_other csrs (Interrupt Hvip) = tt
vs_other csrs (Enable Scounteren) = tt
vs_other csrs (Enable Senvcfg) = tt
vs_other csrs (Enable Hcounteren) = tt
vs_other csrs (Enable Henvcfg) = tt
vs_other csrs (Hypervisor r) = tt
vs_other csrs Time = either IsOther csrs.hcounteren_tm (Ok GuestTime) (Err VirtualInstruction) tt tt
vs_other csrs GuestTime = tt

vu_other : (csrs : Csrs) (r : Register) → IsOther (reached_in_vu csrs r)
unfolding reached_in_vu
vu_other csrs (Supervisor r) = tt
vu_other csrs (VirtualSupervisor r) = tt
vu_other csrs (Interrupt r) = tt
vu_other csrs (Enable r) = tt
vu_other csrs (Hypervisor r) = tt
vu_other csrs Time = either IsOther _ (Ok GuestTime) (Err VirtualInstruction) tt tt
vu_other csrs GuestTime = tt

named_other : (csrs : Csrs) (mode : Mode) (r : Option Register) → is_virtual mode ≡ true → IsOther (reached_by csrs mode r)
unfolding reached_by reached
named_other csrs HS r virtual = absurd cc
named_other csrs U r virtual = absurd cc
named_other csrs VS None virtual = tt
named_other csrs VS (Some r) virtual = vs_other csrs r
named_other csrs VU None virtual = tt
named_other csrs VU (Some r) virtual = vu_other csrs r

-- leaves hgatp
abbrev WriteKeeps : Csrs → Result Csrs CsrEnd → Type 0
WriteKeeps csrs (Ok after) = after.hgatp ≡ csrs.hgatp
WriteKeeps csrs (Err end) = Unit {0}

written_keeps : (csrs : Csrs) (r : Result Register CsrEnd) (v : ℕ) → IsOther r → WriteKeeps csrs (written_by csrs r v)
unfolding written interrupts_written enable_written
written_keeps csrs (Ok (Supervisor r)) v other = refl
written_keeps csrs (Ok (VirtualSupervisor r)) v other = refl
written_keeps csrs (Ok (Interrupt Sie)) v other = refl
written_keeps csrs (Ok (Interrupt Sip)) v other = refl
written_keeps csrs (Ok (Interrupt Vsie)) v other = refl
written_keeps csrs (Ok (Interrupt Vsip)) v other = refl
written_keeps csrs (Ok (Interrupt Hideleg)) v other = refl
written_keeps csrs (Ok (Interrupt Hie)) v other = refl
written_keeps csrs (Ok (Interrupt Hip)) v other = refl
written_keeps csrs (Ok (Interrupt Hvip)) v other = refl
written_keeps csrs (Ok (Enable Scounteren)) v other = refl
written_keeps csrs (Ok (Enable Senvcfg)) v other = refl
written_keeps csrs (Ok (Enable Hcounteren)) v other = refl
written_keeps csrs (Ok (Enable Henvcfg)) v other = refl
written_keeps csrs (Ok (Hypervisor r)) v other = absurd other
written_keeps csrs (Ok Time) v other = refl
written_keeps csrs (Ok GuestTime) v other = refl
written_keeps csrs (Err end) v other = tt

write_keeps : (csrs : Csrs) (mode : Mode) (number v : ℕ) → is_virtual mode ≡ true → WriteKeeps csrs (write_csr csrs mode number v)
unfolding write_csr named_to_write
write_keeps csrs mode number v virtual = written_keeps csrs (cond (nat_le 0xC00 number) (Err Illegal) (reached_by csrs mode (register_of number))) v
    (either IsOther (nat_le 0xC00 number) (Err Illegal) (reached_by csrs mode (register_of number)) tt (named_other csrs mode (register_of number) virtual))

-- what the mode decides on
shown_root : (s : Virtual) (word rd : ℕ) (value : Result ℕ CsrEnd) → KeepsRoot s (csr_shown s word rd value)
shown_root s word rd (Ok value) = λ virtual. refl
shown_root s word rd (Err end) = tt

changed_root : (s : Virtual) (word rd value : ℕ) (csrs : Result Csrs CsrEnd) → (is_virtual s.mode ≡ true → WriteKeeps s.csrs csrs) → KeepsRoot s (csr_changed s word rd value csrs)
changed_root s word rd value (Ok csrs) keeps = keeps
changed_root s word rd value (Err end) keeps = tt

csr_root : (s : Virtual) (word : ℕ) (o : CsrOp) (number operand : ℕ) (writes : Bool) (rd : ℕ) → KeepsRoot s (csr_accessed s word o number operand writes rd)
csr_root s word o number operand true rd = let before = value_or_zero (read_csr s.csrs s.mode number) in
    changed_root s word rd before (write_csr s.csrs s.mode number (combined o before operand)) (λ virtual. write_keeps s.csrs s.mode number (combined o before operand) virtual)
csr_root s word o number operand false rd = shown_root s word rd (read_csr s.csrs s.mode number)

returned_root : (csrs : Csrs) (regs : Regs) (mode : Mode) → (returned csrs regs mode).csrs.hgatp ≡ csrs.hgatp
unfolding returned
returned_root csrs regs HS = refl
returned_root csrs regs U = refl
returned_root csrs regs VS = refl
returned_root csrs regs VU = refl

-- each instruction that is allowed, and one by its refusal
performed_root : (s : Virtual) (word : ℕ) (p : Privileged) → KeepsRoot s (performed s word p)
performed_root s word (Csr o number operand writes rd) = csr_root s word o number operand writes rd
performed_root s word Sret = λ virtual. returned_root s.csrs s.regs s.mode
performed_root s word Wfi = (refl, refl)
performed_root s word (SfenceVma fence) = (refl, refl)
performed_root s word (HfenceVvma fence) = (refl, refl)
performed_root s word (HfenceGvma fence) = (refl, refl)
performed_root s word (HlvAccess wanted) = tt

privileged_root : (s : Virtual) (word : ℕ) (p : Privileged) → KeepsRoot s (privileged s word p)
unfolding privileged
privileged_root s word p = by (refusal p s.csrs.hstatus s.mode)
  where
    by : (refusal : Option CsrEnd) → KeepsRoot s (decided s word p refusal)
    by (Some end) = tt
    by None = performed_root s word p

called_root : (s : Virtual) (mode : Mode) → KeepsRoot s (called_from mode)
called_root s HS = tt
called_root s U = tt
called_root s VS = tt
called_root s VU = tt

-- an instruction
accessed_data_root : (s : Virtual) (through : Mmu) (event : Event) (wanted : DataAccess) → KeepsRoot s (accessed_data through s event wanted)
accessed_data_root s through event wanted =
    at_each (KeepsRoot s) (Some wanted) (λ place. done event (completed through.reading s wanted.width wanted.purpose place)) (λ trap. tt) (λ missing. tt) same
    (data_place through s.csrs s.mode wanted)
  where
    same : (place : ℕ) → KeepsRoot s (done event (completed through.reading s wanted.width wanted.purpose place))
    same place = λ virtual. ap (λ (v : Virtual). v.csrs.hgatp) (completed_same through.reading s wanted.width wanted.purpose place)

executed_root : (s : Virtual) (through : Mmu) (word : ℕ) (effect : Effect) → KeepsRoot s (executed through s word effect)
executed_root s through word (Sets rd value next) = λ virtual. refl
executed_root s through word (Raises cause tval) = tt
executed_root s through word (Data wanted) = accessed_data_root s through (event_of s.regs.pc word) wanted
executed_root s through word Calls = called_root s s.mode
executed_root s through word (Decides effect) = privileged_root s word effect

decoded_root : (s : Virtual) (through : Mmu) (word : ℕ) (o : Option Op) → KeepsRoot s (decoded through s word o)
decoded_root s through word (Some o) = executed_root s through word (meaning o s.regs)
decoded_root s through word None = tt

pub core_root : (s : Virtual) (through : Mmu) → KeepsRoot s (core through s)
unfolding core
core_root s through = at_each (KeepsRoot s) None (λ place. instruction through s (word_at through.reading place)) (λ trap. tt) (λ missing. tt) same (fetch_place through s)
  where
    same : (place : ℕ) → KeepsRoot s (instruction through s (word_at through.reading place))
    same place = decoded_root s through (word_at through.reading place) (op_of (word_at through.reading place))

-- HLV, HLVX and HSV, and so a try
hlv_root : (s : Virtual) (device : Bool) (memory : Memory) (wanted : DataAccess) → HlvHas (LeavesRoot s) (hlv_outcome device memory s wanted)
hlv_root s device memory wanted = hlv_each (LeavesRoot s) device memory s wanted
    (λ place virtual. ap (λ (v : Virtual). v.csrs.hgatp) (completed_same (reading_of memory) s wanted.width wanted.purpose place))

abbrev pub RootEnd : Machine → Tried → Option Fence → Type 0
RootEnd m t fence = TryEnd (LeavesRoot m.platform.virt) (KeepsModeAndRoot m.platform.virt) m t fence

pub root_end : (m : Machine) (stages : Stages) → RootEnd m (try_under stages m) (fence_under stages m)
root_end m stages = let s = m.platform.virt in
    try_end (LeavesRoot s) (KeepsModeAndRoot s) (λ wanted. Unit {0}) m stages (λ first wanted any. hlv_root (with_first m first).platform.virt m.device (ram_memory m.ram) wanted) (core_root s (mmu_under stages m))
