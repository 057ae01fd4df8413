-- A read after a write, register by register.
use Rattle.std.specs.Prelude.{bit_and, Bool, true, false, IfSome, ◌&&◌}
use Rattle.std.proofs.Common.{cond, ◌≡◌, ℕ, ◌+◌, ◌*◌, ◌^◌, ◌<◌, refl, arith}
use Rattle.std.proofs.lemmas.Nat.{and_comm}
use Rattle.arch_defs.specs.declared.registers.SupervisorCsrs.{SupervisorCsrs}
use Rattle.arch_defs.specs.declared.registers.Csrs.{Csrs}
use Rattle.arch_defs.specs.declared.registers.Interrupts.{Interrupts}
use Rattle.arch_defs.specs.declared.csr_names.SupervisorCsr.{SupervisorCsr}
use Rattle.arch_defs.specs.declared.csr_names.SupervisorCsr.TheVariants.{Status, Tvec, Scratch, Epc, Cause, Tval, Atp}
use Rattle.arch_defs.specs.declared.csr_names.InterruptCsr.{InterruptCsr}
use Rattle.arch_defs.specs.declared.csr_names.InterruptCsr.TheVariants.{Sie, Sip, Vsie, Vsip, Hideleg, Hie, Hip, Hvip}
use Rattle.arch_defs.specs.declared.csr_names.EnableCsr.{EnableCsr}
use Rattle.arch_defs.specs.declared.csr_names.EnableCsr.TheVariants.{Scounteren, Senvcfg, Hcounteren, Henvcfg}
use Rattle.arch_defs.specs.declared.csr_names.HypervisorCsr.{HypervisorCsr}
use Rattle.arch_defs.specs.declared.csr_names.HypervisorCsr.TheVariants.{Hstatus, Hedeleg, Htimedelta, Hgeie, Hgeip, Htval, Htinst, Hgatp}
use Rattle.arch_defs.specs.declared.csr_names.Register.TheVariants.{Supervisor, VirtualSupervisor, Interrupt, Enable, Hypervisor, Time, GuestTime}
use Rattle.arch_defs.specs.Bits.{bit, bit_number}
use Rattle.arch_defs.specs.CsrBits.{sstatus_bits, sstatus_of, hstatus_bits, hstatus_of, sip_bits, supervisor_interrupts, hip_bits, virtual_interrupts, delegated, delegated_become, tvec_bits, epc_bits, hedeleg_bits}
use Rattle.arch_defs.specs.CsrAccess.{supervisor_shown, supervisor_written, interrupts_shown, interrupts_written, enable_shown, enable_written, hypervisor_shown, hypervisor_written, shown, written}
use Rattle.csr_file.specs.Laws.{merged, all_bits, supervisor_mask, interrupts_mask, enable_mask, hypervisor_mask, ReadsBack, SatpReadsBack, VsatpReadsBack, HgatpReadsBack}
use Rattle.csr_file.proofs.Masks.{masked, under, flag, flag_most, replaced}
use Rattle.csr_file.proofs.Statuses.{status_taken, status_kept, hstatus_taken, hstatus_kept, supervisor_taken, supervisor_kept, virtual_taken, virtual_kept, tvec_under, epc_under, hedeleg_under, all_under}
use Rattle.csr_file.proofs.Delegated.{vsie_taken, vsie_kept}
use Rattle.csr_file.proofs.Roots.{root_shown, guest_root_shown}

all_replaced : (before v : ℕ) → v < 2 ^ 64 → v ≡ merged all_bits before v
all_replaced before v h = omega (arith, all_under v h, and_comm before 0)

none_replaced : (v : ℕ) → 0 ≡ merged 0 0 v
none_replaced v = omega (arith, and_comm v 0)

tvec_small : (t : ℕ) → tvec_bits t < 2 ^ 64
unfolding tvec_bits
tvec_small t = omega arith

tvec_twice : (t : ℕ) → tvec_bits (tvec_bits t) ≡ tvec_bits t
unfolding tvec_bits
tvec_twice t = omega arith

tvec_replaced : (t v : ℕ) → v < 2 ^ 64 → tvec_bits (tvec_bits v) ≡ merged 0xFFFFFFFFFFFFFFFD (tvec_bits t) v
tvec_replaced t v h =
    replaced 0xFFFFFFFFFFFFFFFD 0 (tvec_bits t) (tvec_bits (tvec_bits v)) v (omega arith) (omega (arith, tvec_under v h, tvec_twice v))
    (omega (arith, tvec_under (tvec_bits t) (tvec_small t), tvec_twice t))

epc_small : (t : ℕ) → epc_bits t < 2 ^ 64
unfolding epc_bits
epc_small t = omega arith

epc_twice : (t : ℕ) → epc_bits (epc_bits t) ≡ epc_bits t
unfolding epc_bits
epc_twice t = omega arith

epc_replaced : (t v : ℕ) → v < 2 ^ 64 → epc_bits (epc_bits v) ≡ merged 0xFFFFFFFFFFFFFFFC (epc_bits t) v
epc_replaced t v h =
    replaced 0xFFFFFFFFFFFFFFFC 0 (epc_bits t) (epc_bits (epc_bits v)) v (omega arith) (omega (arith, epc_under v h, epc_twice v))
    (omega (arith, epc_under (epc_bits t) (epc_small t), epc_twice t))

hedeleg_twice : (t : ℕ) → hedeleg_bits (hedeleg_bits t) ≡ hedeleg_bits t
unfolding hedeleg_bits
hedeleg_twice t = omega arith

hedeleg_replaced : (t v : ℕ) → hedeleg_bits (hedeleg_bits v) ≡ merged 0xB1FF (hedeleg_bits t) v
hedeleg_replaced t v =
    replaced 0xB1FF 0 (hedeleg_bits t) (hedeleg_bits (hedeleg_bits v)) v (omega arith) (omega (arith, hedeleg_under v, hedeleg_twice v))
    (omega (arith, hedeleg_under (hedeleg_bits t), hedeleg_twice t))

supervisor_back : (registers : SupervisorCsrs) (r : SupervisorCsr) (v : ℕ) → v < 2 ^ 64
    → IfSome (supervisor_mask r) (λ mask. supervisor_shown (supervisor_written registers r v) r ≡ merged mask (supervisor_shown registers r) v)
unfolding supervisor_shown supervisor_written
supervisor_back registers Status v h =
    replaced 0xC0122 (2 * 2 ^ 32) (sstatus_bits registers.status) (sstatus_bits (sstatus_of v)) v (omega arith) (status_taken v) (status_kept registers.status)
supervisor_back registers Tvec v h = tvec_replaced registers.tvec v h
supervisor_back registers Scratch v h = all_replaced registers.scratch v h
supervisor_back registers Epc v h = epc_replaced registers.epc v h
supervisor_back registers Cause v h = all_replaced registers.cause v h
supervisor_back registers Tval v h = all_replaced registers.tval v h
supervisor_back registers Atp v h = tt

supervisor_replaced : (s : Interrupts) (v : ℕ) → sip_bits (supervisor_interrupts v) ≡ merged 0x222 (sip_bits s) v
supervisor_replaced s v =
    replaced 0x222 0 (sip_bits s) (sip_bits (supervisor_interrupts v)) v (omega arith) (omega (arith, supervisor_taken v))
    (omega (arith, supervisor_kept s))

virtual_replaced : (s : Interrupts) (v : ℕ) → hip_bits (virtual_interrupts v) ≡ merged 0x444 (hip_bits s) v
virtual_replaced s v =
    replaced 0x444 0 (hip_bits s) (hip_bits (virtual_interrupts v)) v (omega arith) (omega (arith, virtual_taken v))
    (omega (arith, virtual_kept s))

-- bit 1 of a supervisor level's set alone, and bit 2 of VS's
software_kept : (a b c : Bool) → bit_and (bit_number 1 a + bit_number 5 b + bit_number 9 c) 2 + (bit_number 5 b + bit_number 9 c) ≡ bit_number 1 a + bit_number 5 b + bit_number 9 c
software_kept a b c = grind arith

software_replaced : (a b c : Bool) (v : ℕ)
    → bit_number 1 (bit 1 v) + bit_number 5 b + bit_number 9 c ≡ merged 2 (bit_number 1 a + bit_number 5 b + bit_number 9 c) v
unfolding masked
software_replaced a b c v =
    replaced 2 (bit_number 5 b + bit_number 9 c) (bit_number 1 a + bit_number 5 b + bit_number 9 c) (bit_number 1 (bit 1 v) + bit_number 5 b + bit_number 9 c) v
    (omega (arith, flag_most 5 b, flag_most 9 c)) (omega (arith, under 2 2 v (omega arith), flag 1 v)) (software_kept a b c)

virtual_software_kept : (a b c : Bool) → bit_and (bit_number 2 a + bit_number 6 b + bit_number 10 c) 4 + (bit_number 6 b + bit_number 10 c) ≡ bit_number 2 a + bit_number 6 b + bit_number 10 c
virtual_software_kept a b c = grind arith

virtual_software_replaced : (a b c : Bool) (v : ℕ)
    → bit_number 2 (bit 2 v) + bit_number 6 b + bit_number 10 c ≡ merged 4 (bit_number 2 a + bit_number 6 b + bit_number 10 c) v
unfolding masked
virtual_software_replaced a b c v =
    replaced 4 (bit_number 6 b + bit_number 10 c) (bit_number 2 a + bit_number 6 b + bit_number 10 c) (bit_number 2 (bit 2 v) + bit_number 6 b + bit_number 10 c) v
    (omega (arith, flag_most 6 b, flag_most 10 c)) (omega (arith, under 3 4 v (omega arith), flag 2 v)) (virtual_software_kept a b c)

vsie_replaced : (a b c p q r : Bool) (v : ℕ)
    → bit_number 1 (a && cond a (bit 1 v) p) + bit_number 5 (b && cond b (bit 5 v) q) + bit_number 9 (c && cond c (bit 9 v) r)
    ≡ merged (bit_number 1 a + bit_number 5 b + bit_number 9 c) (bit_number 1 (a && p) + bit_number 5 (b && q) + bit_number 9 (c && r)) v
vsie_replaced a b c p q r v =
    replaced (bit_number 1 a + bit_number 5 b + bit_number 9 c) 0 (bit_number 1 (a && p) + bit_number 5 (b && q) + bit_number 9 (c && r))
    (bit_number 1 (a && cond a (bit 1 v) p) + bit_number 5 (b && cond b (bit 5 v) q) + bit_number 9 (c && cond c (bit 9 v) r)) v
    (omega (arith, flag_most 1 a, flag_most 5 b, flag_most 9 c)) (omega (arith, vsie_taken a b c p q r v)) (omega (arith, vsie_kept a b c p q r))

none_under_zero : (before v : ℕ) → before < 2 ^ 64 → before ≡ merged 0 before v
none_under_zero before v h = omega (arith, and_comm v 0, all_under before h)

vsip_replaced : (a b c p q r : Bool) (v : ℕ)
    → bit_number 1 (a && cond a (bit 1 v) p) + bit_number 5 (b && q) + bit_number 9 (c && r)
    ≡ merged (bit_number 1 a) (bit_number 1 (a && p) + bit_number 5 (b && q) + bit_number 9 (c && r)) v
vsip_replaced true b c p q r v = software_replaced p (b && q) (c && r) v
vsip_replaced false b c p q r v = none_under_zero (0 + bit_number 5 (b && q) + bit_number 9 (c && r)) v (omega (arith, flag_most 5 (b && q), flag_most 9 (c && r)))

interrupts_back : (csrs : Csrs) (r : InterruptCsr) (v : ℕ)
    → interrupts_shown (interrupts_written csrs r v) r ≡ merged (interrupts_mask csrs r) (interrupts_shown csrs r) v
unfolding interrupts_shown interrupts_written sip_bits supervisor_interrupts hip_bits delegated delegated_become
interrupts_back csrs Sie v = supervisor_replaced csrs.sie v
interrupts_back csrs Sip v = software_replaced csrs.sip.software csrs.sip.timer csrs.sip.external v
interrupts_back csrs Vsie v =
    vsie_replaced csrs.hideleg.software csrs.hideleg.timer csrs.hideleg.external csrs.hie.software csrs.hie.timer csrs.hie.external v
interrupts_back csrs Vsip v =
    vsip_replaced csrs.hideleg.software csrs.hideleg.timer csrs.hideleg.external csrs.hvip.software csrs.hvip.timer csrs.hvip.external v
interrupts_back csrs Hideleg v = virtual_replaced csrs.hideleg v
interrupts_back csrs Hie v = virtual_replaced csrs.hie v
interrupts_back csrs Hip v = virtual_software_replaced csrs.hvip.software csrs.hvip.timer csrs.hvip.external v
interrupts_back csrs Hvip v = virtual_replaced csrs.hvip v

one_at_0 : (b : Bool) (v : ℕ) → bit_number 0 (bit 0 v) ≡ merged 1 (bit_number 0 b) v
unfolding masked
one_at_0 true v = replaced 1 0 1 (bit_number 0 (bit 0 v)) v (omega arith) (omega (arith, under 1 1 v (omega arith), flag 0 v)) refl
one_at_0 false v = replaced 1 0 0 (bit_number 0 (bit 0 v)) v (omega arith) (omega (arith, under 1 1 v (omega arith), flag 0 v)) refl

one_at_1 : (b : Bool) (v : ℕ) → bit_number 1 (bit 1 v) ≡ merged 2 (bit_number 1 b) v
unfolding masked
one_at_1 true v = replaced 2 0 2 (bit_number 1 (bit 1 v)) v (omega arith) (omega (arith, under 2 2 v (omega arith), flag 1 v)) refl
one_at_1 false v = replaced 2 0 0 (bit_number 1 (bit 1 v)) v (omega arith) (omega (arith, under 2 2 v (omega arith), flag 1 v)) refl

enables_back : (csrs : Csrs) (r : EnableCsr) (v : ℕ) → enable_shown (enable_written csrs r v) r ≡ merged (enable_mask r) (enable_shown csrs r) v
unfolding enable_shown enable_written
enables_back csrs Scounteren v = one_at_1 csrs.scounteren_tm v
enables_back csrs Senvcfg v = one_at_0 csrs.senvcfg_fiom v
enables_back csrs Hcounteren v = one_at_1 csrs.hcounteren_tm v
enables_back csrs Henvcfg v = one_at_0 csrs.henvcfg_fiom v

hypervisor_back : (csrs : Csrs) (r : HypervisorCsr) (v : ℕ) → v < 2 ^ 64
    → IfSome (hypervisor_mask r) (λ mask. hypervisor_shown (hypervisor_written csrs r v) r ≡ merged mask (hypervisor_shown csrs r) v)
unfolding hypervisor_shown hypervisor_written
hypervisor_back csrs Hstatus v h =
    replaced 0x7003C0 (2 * 2 ^ 32) (hstatus_bits csrs.hstatus) (hstatus_bits (hstatus_of v)) v (omega arith) (hstatus_taken v)
    (hstatus_kept csrs.hstatus)
hypervisor_back csrs Hedeleg v h = hedeleg_replaced csrs.hedeleg v
hypervisor_back csrs Htimedelta v h = all_replaced csrs.htimedelta v h
hypervisor_back csrs Hgeie v h = none_replaced v
hypervisor_back csrs Hgeip v h = none_replaced v
hypervisor_back csrs Htval v h = all_replaced csrs.htval v h
hypervisor_back csrs Htinst v h = all_replaced csrs.htinst v h
hypervisor_back csrs Hgatp v h = tt

pub reads_back : ReadsBack
unfolding shown written
reads_back csrs (Supervisor r) v h = supervisor_back csrs.hs r v h
reads_back csrs (VirtualSupervisor r) v h = supervisor_back csrs.vs r v h
reads_back csrs (Interrupt r) v h = interrupts_back csrs r v
reads_back csrs (Enable r) v h = enables_back csrs r v
reads_back csrs (Hypervisor r) v h = hypervisor_back csrs r v h
reads_back csrs Time v h = tt
reads_back csrs GuestTime v h = tt

pub satp_back : SatpReadsBack
unfolding shown written supervisor_shown supervisor_written
satp_back csrs v h = root_shown csrs.hs.atp v h

pub vsatp_back : VsatpReadsBack
unfolding shown written supervisor_shown supervisor_written
vsatp_back csrs v h = root_shown csrs.vs.atp v h

pub hgatp_back : HgatpReadsBack
unfolding shown written hypervisor_shown hypervisor_written
hgatp_back csrs v h = guest_root_shown v h
