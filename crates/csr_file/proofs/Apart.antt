-- What a write of one register leaves of the others.
use Rattle.std.specs.Prelude.{false}
use Rattle.std.proofs.Common.{◌≡◌, ◌≢◌, ℕ, refl, ap, arith}
use Rattle.arch_defs.specs.declared.registers.SupervisorCsrs.{SupervisorCsrs}
use Rattle.arch_defs.specs.declared.registers.Csrs.{Csrs}
use Rattle.arch_defs.specs.declared.csr_names.SupervisorCsr.{SupervisorCsr}
use Rattle.arch_defs.specs.declared.csr_names.SupervisorCsr.TheVariants.{Status, Tvec, Scratch, Epc, Cause, Tval, Atp}
use Rattle.arch_defs.specs.declared.csr_names.InterruptCsr.{InterruptCsr}
use Rattle.arch_defs.specs.declared.csr_names.InterruptCsr.TheVariants.{Sie, Sip, Vsie, Vsip, Hideleg, Hie, Hip, Hvip}
use Rattle.arch_defs.specs.declared.csr_names.EnableCsr.{EnableCsr}
use Rattle.arch_defs.specs.declared.csr_names.EnableCsr.TheVariants.{Scounteren, Senvcfg, Hcounteren, Henvcfg}
use Rattle.arch_defs.specs.declared.csr_names.HypervisorCsr.{HypervisorCsr}
use Rattle.arch_defs.specs.declared.csr_names.HypervisorCsr.TheVariants.{Hstatus, Hedeleg, Htimedelta, Hgeie, Hgeip, Htval, Htinst, Hgatp}
use Rattle.arch_defs.specs.declared.csr_names.Register.{Register}
use Rattle.arch_defs.specs.declared.csr_names.Register.TheVariants.{Supervisor, VirtualSupervisor, Interrupt, Enable, Hypervisor, Time, GuestTime}
use Rattle.arch_defs.specs.CsrAccess.{supervisor_shown, supervisor_written, interrupts_shown, interrupts_written, enable_shown, enable_written, hypervisor_shown, hypervisor_written, shown, written}
use Rattle.csr_file.specs.Laws.{is_alias, LeavesOthers}

supervisor_others : (registers : SupervisorCsrs) (r s : SupervisorCsr) (v : ℕ) → r ≢ s → supervisor_shown (supervisor_written registers r v) s ≡ supervisor_shown registers s
unfolding supervisor_shown supervisor_written
supervisor_others registers Status s v h = grind arith
supervisor_others registers Tvec s v h = grind arith
supervisor_others registers Scratch s v h = grind arith
supervisor_others registers Epc s v h = grind arith
supervisor_others registers Cause s v h = grind arith
supervisor_others registers Tval s v h = grind arith
supervisor_others registers Atp s v h = grind arith

-- the supervisor registers are not part of what the other groups show
interrupts_by_supervisors : (csrs : Csrs) (hs vs : SupervisorCsrs) (s : InterruptCsr) → interrupts_shown (record csrs { hs = hs; vs = vs }) s ≡ interrupts_shown csrs s
unfolding interrupts_shown
interrupts_by_supervisors csrs hs vs s = grind arith

enables_by_supervisors : (csrs : Csrs) (hs vs : SupervisorCsrs) (s : EnableCsr) → enable_shown (record csrs { hs = hs; vs = vs }) s ≡ enable_shown csrs s
unfolding enable_shown
enables_by_supervisors csrs hs vs s = grind arith

hypervisor_by_supervisors : (csrs : Csrs) (hs vs : SupervisorCsrs) (s : HypervisorCsr) → hypervisor_shown (record csrs { hs = hs; vs = vs }) s ≡ hypervisor_shown csrs s
unfolding hypervisor_shown
hypervisor_by_supervisors csrs hs vs s = grind arith

interrupts_others : (csrs : Csrs) (r : InterruptCsr) (s : Register) (v : ℕ) → Interrupt r ≢ s → is_alias (Interrupt r) s ≡ false
    → shown (interrupts_written csrs r v) s ≡ shown csrs s
unfolding shown interrupts_shown interrupts_written enable_shown hypervisor_shown
interrupts_others csrs Sie s v h a = grind arith
interrupts_others csrs Sip s v h a = grind arith
interrupts_others csrs Vsie s v h a = grind arith
interrupts_others csrs Vsip s v h a = grind arith
interrupts_others csrs Hideleg s v h a = grind arith
interrupts_others csrs Hie s v h a = grind arith
interrupts_others csrs Hip s v h a = grind arith
interrupts_others csrs Hvip s v h a = grind arith

enables_others : (csrs : Csrs) (r : EnableCsr) (s : Register) (v : ℕ) → Enable r ≢ s → shown (enable_written csrs r v) s ≡ shown csrs s
unfolding shown interrupts_shown enable_written enable_shown hypervisor_shown
enables_others csrs Scounteren s v h = grind arith
enables_others csrs Senvcfg s v h = grind arith
enables_others csrs Hcounteren s v h = grind arith
enables_others csrs Henvcfg s v h = grind arith

hypervisor_others : (csrs : Csrs) (r : HypervisorCsr) (s : Register) (v : ℕ) → Hypervisor r ≢ s → is_alias (Hypervisor r) s ≡ false
    → shown (hypervisor_written csrs r v) s ≡ shown csrs s
unfolding shown interrupts_shown enable_shown hypervisor_shown hypervisor_written
hypervisor_others csrs Hstatus s v h a = grind arith
hypervisor_others csrs Hedeleg s v h a = grind arith
hypervisor_others csrs Htimedelta s v h a = grind arith
hypervisor_others csrs Hgeie s v h a = refl
hypervisor_others csrs Hgeip s v h a = refl
hypervisor_others csrs Htval s v h a = grind arith
hypervisor_others csrs Htinst s v h a = grind arith
hypervisor_others csrs Hgatp s v h a = grind arith

pub leaves_others : LeavesOthers
unfolding shown written
leaves_others csrs (Supervisor r) (Supervisor s) v h a = supervisor_others csrs.hs r s v (λ e. h (ap Supervisor e))
leaves_others csrs (Supervisor r) (VirtualSupervisor s) v h a = refl
leaves_others csrs (Supervisor r) (Interrupt s) v h a = interrupts_by_supervisors csrs (supervisor_written csrs.hs r v) csrs.vs s
leaves_others csrs (Supervisor r) (Enable s) v h a = enables_by_supervisors csrs (supervisor_written csrs.hs r v) csrs.vs s
leaves_others csrs (Supervisor r) (Hypervisor s) v h a = hypervisor_by_supervisors csrs (supervisor_written csrs.hs r v) csrs.vs s
leaves_others csrs (Supervisor r) Time v h a = refl
leaves_others csrs (Supervisor r) GuestTime v h a = refl
leaves_others csrs (VirtualSupervisor r) (Supervisor s) v h a = refl
leaves_others csrs (VirtualSupervisor r) (VirtualSupervisor s) v h a = supervisor_others csrs.vs r s v (λ e. h (ap VirtualSupervisor e))
leaves_others csrs (VirtualSupervisor r) (Interrupt s) v h a = interrupts_by_supervisors csrs csrs.hs (supervisor_written csrs.vs r v) s
leaves_others csrs (VirtualSupervisor r) (Enable s) v h a = enables_by_supervisors csrs csrs.hs (supervisor_written csrs.vs r v) s
leaves_others csrs (VirtualSupervisor r) (Hypervisor s) v h a = hypervisor_by_supervisors csrs csrs.hs (supervisor_written csrs.vs r v) s
leaves_others csrs (VirtualSupervisor r) Time v h a = refl
leaves_others csrs (VirtualSupervisor r) GuestTime v h a = refl
leaves_others csrs (Interrupt r) s v h a = interrupts_others csrs r s v h a
leaves_others csrs (Enable r) s v h a = enables_others csrs r s v h
leaves_others csrs (Hypervisor r) s v h a = hypervisor_others csrs r s v h a
leaves_others csrs Time s v h a = refl
leaves_others csrs GuestTime s v h a = refl
