-- Which writes of registers leave the roots and the privilege of accesses as they are: those of registers whose
-- number is not a multiple of 128, so of none of sstatus, satp, vsstatus, vsatp and hgatp.
use Rattle.std.specs.Prelude.{Result, Ok, Err, ◌&&◌, nat_le, nat_eq}
use Rattle.std.proofs.Common.{cond, ◌≡◌, ℕ, ◌/◌, ◌%◌, ◌^◌, Bool, true, false, Option, Some, None, refl, arith}
use Rattle.std.proofs.lemmas.Bool.{eqb-false, eqb-true}
use Rattle.arch_defs.specs.declared.csr_names.CsrEnd.{CsrEnd}
use Rattle.arch_defs.specs.declared.csr_names.CsrEnd.TheVariants.{Illegal}
use Rattle.arch_defs.specs.declared.csr_names.SupervisorCsr.{SupervisorCsr}
use Rattle.arch_defs.specs.declared.csr_names.SupervisorCsr.TheVariants.{Status, Tvec, Scratch, Epc, Cause, Tval, Atp}
use Rattle.arch_defs.specs.declared.csr_names.InterruptCsr.TheVariants.{Sie, Sip, Vsie, Vsip, Hideleg, Hie, Hip, Hvip}
use Rattle.arch_defs.specs.declared.csr_names.EnableCsr.TheVariants.{Scounteren, Senvcfg, Hcounteren, Henvcfg}
use Rattle.arch_defs.specs.declared.csr_names.HypervisorCsr.{HypervisorCsr}
use Rattle.arch_defs.specs.declared.csr_names.HypervisorCsr.TheVariants.{Hstatus, Hedeleg, Htimedelta, Hgeie, Hgeip, Htval, Htinst, Hgatp}
use Rattle.arch_defs.specs.declared.csr_names.Register.{Register}
use Rattle.arch_defs.specs.declared.csr_names.Register.TheVariants.{Supervisor, VirtualSupervisor, Interrupt, Enable, Hypervisor, Time, GuestTime}
use Rattle.arch_defs.specs.declared.modes.Mode.{Mode}
use Rattle.arch_defs.specs.declared.modes.Mode.TheVariants.{HS, U, VS, VU}
use Rattle.arch_defs.specs.declared.registers.Csrs.{Csrs}
use Rattle.arch_defs.specs.declared.registers.Virtual.{Virtual}
use Rattle.arch_defs.specs.CsrAccess.{enable_written, hypervisor_written, interrupts_written, named, named_to_write, reached, reached_by, reached_in_u, reached_in_vs, reached_in_vu, read_csr, supervisor_written, write_csr, written, written_by}
use Rattle.arch_defs.specs.CsrNames.{hypervisor_register, read_only_register, register_of, supervisor_register, virtual_supervisor_register}
use Rattle.op_defs.specs.declared.ops.CsrOp.{CsrOp}
use Rattle.machine_defs.specs.Outcomes.{Outcome}
use Rattle.machine_defs.specs.Privileges.{combined, csr_accessed, csr_changed, csr_shown, value_or_zero}
use Rattle.instruction_laws.specs.InstructionEnds.{OutcomeHas}
use Rattle.rv64_hart.specs.Endings.{HasSameTranslation, Unless}

-- the registers of which a context and a privilege are made
abbrev is_status_or_root : SupervisorCsr → Bool
is_status_or_root Status = true
is_status_or_root Tvec = false
is_status_or_root Scratch = false
is_status_or_root Epc = false
is_status_or_root Cause = false
is_status_or_root Tval = false
is_status_or_root Atp = true

abbrev is_hypervisor_root : HypervisorCsr → Bool
is_hypervisor_root Hstatus = false
is_hypervisor_root Hedeleg = false
is_hypervisor_root Htimedelta = false
is_hypervisor_root Hgeie = false
is_hypervisor_root Hgeip = false
is_hypervisor_root Htval = false
is_hypervisor_root Htinst = false
is_hypervisor_root Hgatp = true

abbrev is_of_context : Register → Bool
is_of_context (Supervisor r) = is_status_or_root r
is_of_context (VirtualSupervisor r) = is_status_or_root r
is_of_context (Interrupt r) = false
is_of_context (Enable r) = false
is_of_context (Hypervisor r) = is_hypervisor_root r
is_of_context Time = false
is_of_context GuestTime = false

abbrev IsOther : Option Register → Type 0
IsOther None = Unit {0}
IsOther (Some r) = is_of_context r ≡ false

abbrev ReachesOther : Result Register CsrEnd → Type 0
ReachesOther (Ok r) = is_of_context r ≡ false
ReachesOther (Err end) = Unit {0}

-- by number
multiple : (n k : ℕ) → k % 128 ≡ 0 → nat_eq n k ≡ true → nat_eq (n % 128) 0 ≡ false → ⊥
multiple n k low is other = eqb-false (n % 128) 0 other (omega (arith, eqb-true n k is, low))

either : (b : Bool) (x y : Option Register) → (b ≡ true → IsOther x) → IsOther y → IsOther (cond b x y)
either true x y first rest = first refl
either false x y first rest = rest

supervisor_register_other : (n : ℕ) → nat_eq (n % 128) 0 ≡ false → IsOther (supervisor_register n)
unfolding supervisor_register
supervisor_register_other n other =
    either (nat_eq n 0x100) _ _ (λ is. absurd (multiple n 0x100 refl is other)) (
    either (nat_eq n 0x104) _ _ (λ is. refl) (
    either (nat_eq n 0x105) _ _ (λ is. refl) (
    either (nat_eq n 0x106) _ _ (λ is. refl) (
    either (nat_eq n 0x10A) _ _ (λ is. refl) (
    either (nat_eq n 0x140) _ _ (λ is. refl) (
    either (nat_eq n 0x141) _ _ (λ is. refl) (
    either (nat_eq n 0x142) _ _ (λ is. refl) (
    either (nat_eq n 0x143) _ _ (λ is. refl) (
    either (nat_eq n 0x144) _ _ (λ is. refl) (
    either (nat_eq n 0x180) _ _ (λ is. absurd (multiple n 0x180 refl is other)) tt))))))))))

virtual_supervisor_register_other : (n : ℕ) → nat_eq (n % 128) 0 ≡ false → IsOther (virtual_supervisor_register n)
unfolding virtual_supervisor_register
virtual_supervisor_register_other n other =
    either (nat_eq n 0x200) _ _ (λ is. absurd (multiple n 0x200 refl is other)) (
    either (nat_eq n 0x204) _ _ (λ is. refl) (
    either (nat_eq n 0x205) _ _ (λ is. refl) (
    either (nat_eq n 0x240) _ _ (λ is. refl) (
    either (nat_eq n 0x241) _ _ (λ is. refl) (
    either (nat_eq n 0x242) _ _ (λ is. refl) (
    either (nat_eq n 0x243) _ _ (λ is. refl) (
    either (nat_eq n 0x244) _ _ (λ is. refl) (
    either (nat_eq n 0x280) _ _ (λ is. absurd (multiple n 0x280 refl is other)) tt))))))))

hypervisor_register_other : (n : ℕ) → nat_eq (n % 128) 0 ≡ false → IsOther (hypervisor_register n)
unfolding hypervisor_register
hypervisor_register_other n other =
    either (nat_eq n 0x600) _ _ (λ is. refl) (
    either (nat_eq n 0x602) _ _ (λ is. refl) (
    either (nat_eq n 0x603) _ _ (λ is. refl) (
    either (nat_eq n 0x604) _ _ (λ is. refl) (
    either (nat_eq n 0x605) _ _ (λ is. refl) (
    either (nat_eq n 0x606) _ _ (λ is. refl) (
    either (nat_eq n 0x607) _ _ (λ is. refl) (
    either (nat_eq n 0x60A) _ _ (λ is. refl) (
    either (nat_eq n 0x643) _ _ (λ is. refl) (
    either (nat_eq n 0x644) _ _ (λ is. refl) (
    either (nat_eq n 0x645) _ _ (λ is. refl) (
    either (nat_eq n 0x64A) _ _ (λ is. refl) (
    either (nat_eq n 0x680) _ _ (λ is. absurd (multiple n 0x680 refl is other)) tt))))))))))))

read_only_register_other : (n : ℕ) → nat_eq (n % 128) 0 ≡ false → IsOther (read_only_register n)
unfolding read_only_register
read_only_register_other n other =
    either (nat_eq n 0xC01) _ _ (λ is. refl) (
    either (nat_eq n 0xE12) _ _ (λ is. refl) tt)

register_other : (n : ℕ) → nat_eq (n % 128) 0 ≡ false → IsOther (register_of n)
unfolding register_of
register_other n other = either (nat_eq (n / 2 ^ 8) 1) _ _ (λ is. supervisor_register_other n other)
    (either (nat_eq (n / 2 ^ 8) 2) _ _ (λ is. virtual_supervisor_register_other n other)
    (either (nat_eq (n / 2 ^ 8) 6) _ _ (λ is. hypervisor_register_other n other) (read_only_register_other n other)))

-- and by mode
time_if : (b : Bool) (r : Register) (end : CsrEnd) → is_of_context r ≡ false → ReachesOther (cond b (Ok r) (Err end))
time_if true r end is = is
time_if false r end is = tt

reached_in_u_other : (csrs : Csrs) (r : Register) → is_of_context r ≡ false → ReachesOther (reached_in_u csrs r)
unfolding reached_in_u
reached_in_u_other csrs (Supervisor r) is = tt
reached_in_u_other csrs (VirtualSupervisor r) is = tt
reached_in_u_other csrs (Interrupt r) is = tt
reached_in_u_other csrs (Enable r) is = tt
reached_in_u_other csrs (Hypervisor r) is = tt
reached_in_u_other csrs Time is = time_if _ _ _ refl
reached_in_u_other csrs GuestTime is = tt

reached_in_vs_other : (csrs : Csrs) (r : Register) → is_of_context r ≡ false → ReachesOther (reached_in_vs csrs r)
unfolding reached_in_vs
reached_in_vs_other csrs (Supervisor Status) is = absurd cc
reached_in_vs_other csrs (Supervisor Tvec) is = refl
reached_in_vs_other csrs (Supervisor Scratch) is = refl
reached_in_vs_other csrs (Supervisor Epc) is = refl
reached_in_vs_other csrs (Supervisor Cause) is = refl
reached_in_vs_other csrs (Supervisor Tval) is = refl
reached_in_vs_other csrs (Supervisor Atp) is = absurd cc
reached_in_vs_other csrs (VirtualSupervisor r) is = tt
reached_in_vs_other csrs (Interrupt Sie) is = refl
reached_in_vs_other csrs (Interrupt Sip) is = refl
reached_in_vs_other csrs (Interrupt Vsie) is = tt
reached_in_vs_other csrs (Interrupt Vsip) is = tt
reached_in_vs_other csrs (Interrupt Hideleg) is = tt
reached_in_vs_other csrs (Interrupt Hie) is = tt
reached_in_vs_other csrs (Interrupt Hip) is = tt
reached_in_vs_other csrs (Interrupt Hvip) is = tt
reached_in_vs_other csrs (Enable Scounteren) is = refl
reached_in_vs_other csrs (Enable Senvcfg) is = refl
reached_in_vs_other csrs (Enable Hcounteren) is = tt
reached_in_vs_other csrs (Enable Henvcfg) is = tt
reached_in_vs_other csrs (Hypervisor r) is = tt
reached_in_vs_other csrs Time is = time_if _ _ _ refl
reached_in_vs_other csrs GuestTime is = tt

reached_in_vu_other : (csrs : Csrs) (r : Register) → is_of_context r ≡ false → ReachesOther (reached_in_vu csrs r)
unfolding reached_in_vu
reached_in_vu_other csrs (Supervisor r) is = tt
reached_in_vu_other csrs (VirtualSupervisor r) is = tt
reached_in_vu_other csrs (Interrupt r) is = tt
reached_in_vu_other csrs (Enable r) is = tt
reached_in_vu_other csrs (Hypervisor r) is = tt
reached_in_vu_other csrs Time is = time_if _ _ _ refl
reached_in_vu_other csrs GuestTime is = tt

reached_other : (csrs : Csrs) (mode : Mode) (r : Register) → is_of_context r ≡ false → ReachesOther (reached csrs mode r)
unfolding reached
reached_other csrs HS r is = is
reached_other csrs U r is = reached_in_u_other csrs r is
reached_other csrs VS r is = reached_in_vs_other csrs r is
reached_other csrs VU r is = reached_in_vu_other csrs r is

-- what a write leaves
abbrev Alike : Csrs → Csrs → Type 0
Alike csrs other = (other.hs.status ≡ csrs.hs.status) × (other.hs.atp ≡ csrs.hs.atp) × (other.vs.status ≡ csrs.vs.status) × (other.vs.atp ≡ csrs.vs.atp) × (other.hgatp ≡ csrs.hgatp)

translates_alike : (csrs other : Csrs) (mode : Mode) → Alike csrs other → HasSameTranslation csrs mode other mode
translates_alike csrs other HS (a, b, c, d, e) = (rw (a, b) refl, rw a refl)
translates_alike csrs other U (a, b, c, d, e) = (rw (a, b) refl, rw a refl)
translates_alike csrs other VS (a, b, c, d, e) = (rw (a, d, e) refl, rw (a, c) refl)
translates_alike csrs other VU (a, b, c, d, e) = (rw (a, d, e) refl, rw (a, c) refl)

written_alike : (csrs : Csrs) (r : Register) (v : ℕ) → is_of_context r ≡ false → Alike csrs (written csrs r v)
unfolding written supervisor_written interrupts_written enable_written hypervisor_written
written_alike csrs (Supervisor Status) v is = absurd cc
written_alike csrs (Supervisor Tvec) v is = (refl, refl, refl, refl, refl)
written_alike csrs (Supervisor Scratch) v is = (refl, refl, refl, refl, refl)
written_alike csrs (Supervisor Epc) v is = (refl, refl, refl, refl, refl)
written_alike csrs (Supervisor Cause) v is = (refl, refl, refl, refl, refl)
written_alike csrs (Supervisor Tval) v is = (refl, refl, refl, refl, refl)
written_alike csrs (Supervisor Atp) v is = absurd cc
written_alike csrs (VirtualSupervisor Status) v is = absurd cc
written_alike csrs (VirtualSupervisor Tvec) v is = (refl, refl, refl, refl, refl)
written_alike csrs (VirtualSupervisor Scratch) v is = (refl, refl, refl, refl, refl)
written_alike csrs (VirtualSupervisor Epc) v is = (refl, refl, refl, refl, refl)
written_alike csrs (VirtualSupervisor Cause) v is = (refl, refl, refl, refl, refl)
written_alike csrs (VirtualSupervisor Tval) v is = (refl, refl, refl, refl, refl)
written_alike csrs (VirtualSupervisor Atp) v is = absurd cc
written_alike csrs (Interrupt Sie) v is = (refl, refl, refl, refl, refl)
written_alike csrs (Interrupt Sip) v is = (refl, refl, refl, refl, refl)
written_alike csrs (Interrupt Vsie) v is = (refl, refl, refl, refl, refl)
written_alike csrs (Interrupt Vsip) v is = (refl, refl, refl, refl, refl)
written_alike csrs (Interrupt Hideleg) v is = (refl, refl, refl, refl, refl)
written_alike csrs (Interrupt Hie) v is = (refl, refl, refl, refl, refl)
written_alike csrs (Interrupt Hip) v is = (refl, refl, refl, refl, refl)
written_alike csrs (Interrupt Hvip) v is = (refl, refl, refl, refl, refl)
written_alike csrs (Enable Scounteren) v is = (refl, refl, refl, refl, refl)
written_alike csrs (Enable Senvcfg) v is = (refl, refl, refl, refl, refl)
written_alike csrs (Enable Hcounteren) v is = (refl, refl, refl, refl, refl)
written_alike csrs (Enable Henvcfg) v is = (refl, refl, refl, refl, refl)
written_alike csrs (Hypervisor Hstatus) v is = (refl, refl, refl, refl, refl)
written_alike csrs (Hypervisor Hedeleg) v is = (refl, refl, refl, refl, refl)
written_alike csrs (Hypervisor Htimedelta) v is = (refl, refl, refl, refl, refl)
written_alike csrs (Hypervisor Hgeie) v is = (refl, refl, refl, refl, refl)
written_alike csrs (Hypervisor Hgeip) v is = (refl, refl, refl, refl, refl)
written_alike csrs (Hypervisor Htval) v is = (refl, refl, refl, refl, refl)
written_alike csrs (Hypervisor Htinst) v is = (refl, refl, refl, refl, refl)
written_alike csrs (Hypervisor Hgatp) v is = absurd cc
written_alike csrs Time v is = (refl, refl, refl, refl, refl)
written_alike csrs GuestTime v is = (refl, refl, refl, refl, refl)

abbrev LeavesContext : Csrs → Mode → Result Csrs CsrEnd → Type 0
LeavesContext csrs mode (Ok other) = HasSameTranslation csrs mode other mode
LeavesContext csrs mode (Err end) = Unit {0}

reached_leaves : (csrs : Csrs) (mode : Mode) (v : ℕ) (r : Result Register CsrEnd) → ReachesOther r → LeavesContext csrs mode (written_by csrs r v)
reached_leaves csrs mode v (Ok r) is = translates_alike csrs (written csrs r v) mode (written_alike csrs r v is)
reached_leaves csrs mode v (Err end) is = tt

named_leaves : (csrs : Csrs) (mode : Mode) (v : ℕ) (r : Option Register) → IsOther r → LeavesContext csrs mode (written_by csrs (reached_by csrs mode r) v)
unfolding reached_by
named_leaves csrs mode v None is = tt
named_leaves csrs mode v (Some r) is = reached_leaves csrs mode v (reached csrs mode r) (reached_other csrs mode r is)

write_leaves : (csrs : Csrs) (mode : Mode) (n v : ℕ) → nat_eq (n % 128) 0 ≡ false → LeavesContext csrs mode (write_csr csrs mode n v)
unfolding write_csr named_to_write
write_leaves csrs mode n v other = by (nat_le 0xC00 n)
  where
    by : (b : Bool) → LeavesContext csrs mode (written_by csrs (cond b (Err Illegal) (named csrs mode n)) v)
    by true = tt
    by false = named_leaves csrs mode v (register_of n) (register_other n other)

-- an instruction on a register
abbrev pub EndsAlike : Virtual → Outcome → Type 0
EndsAlike s o = OutcomeHas (λ completion. HasSameTranslation s.csrs s.mode completion.state.csrs completion.state.mode) (λ state. Unit {0}) (λ wanted. Unit {0}) o

shown_keeps : (s : Virtual) (word rd : ℕ) (value : Result ℕ CsrEnd) → EndsAlike s (csr_shown s word rd value)
shown_keeps s word rd (Ok value) = (refl, refl)
shown_keeps s word rd (Err end) = tt

changed_keeps : (s : Virtual) (word rd value : ℕ) (csrs : Result Csrs CsrEnd) → LeavesContext s.csrs s.mode csrs → EndsAlike s (csr_changed s word rd value csrs)
changed_keeps s word rd value (Ok csrs) leaves = leaves
changed_keeps s word rd value (Err end) leaves = tt

pub csr_keeps_context : (s : Virtual) (word : ℕ) (o : CsrOp) (number operand : ℕ) (writes : Bool) (rd : ℕ)
    → Unless (writes && nat_eq (number % 128) 0) (EndsAlike s (csr_accessed s word o number operand writes rd))
csr_keeps_context s word o number operand false rd = shown_keeps s word rd (read_csr s.csrs s.mode number)
csr_keeps_context s word o number operand true rd = by (nat_eq (number % 128) 0) refl
  where
    before : ℕ
    before = value_or_zero (read_csr s.csrs s.mode number)

    by : (b : Bool) → nat_eq (number % 128) 0 ≡ b → Unless b (EndsAlike s (csr_accessed s word o number operand true rd))
    by true is = tt
    by false is = changed_keeps s word rd before (write_csr s.csrs s.mode number (combined o before operand)) (write_leaves s.csrs s.mode number (combined o before operand) is)
