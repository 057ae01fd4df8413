-- What a write, a trap and an SRET leave in registers can be stored.
use Rattle.std.specs.Prelude.{◌==◌, Option, Some, None, Result, Ok, Err}
use Rattle.std.proofs.Common.{◌≡◌, ℕ, ◌+◌, ◌*◌, ◌%◌, ◌^◌, ◌<◌, refl, ap, arith}
use Rattle.arch_defs.specs.declared.csr_names.SupervisorCsr.{SupervisorCsr}
use Rattle.arch_defs.specs.declared.csr_names.SupervisorCsr.TheVariants.{Status, Tvec, Scratch, Epc, Cause, Tval, Atp}
use Rattle.arch_defs.specs.declared.csr_names.EnableCsr.{EnableCsr}
use Rattle.arch_defs.specs.declared.csr_names.EnableCsr.TheVariants.{Scounteren, Senvcfg, Hcounteren, Henvcfg}
use Rattle.arch_defs.specs.declared.csr_names.CsrEnd.{CsrEnd}
use Rattle.arch_defs.specs.declared.csr_names.HypervisorCsr.{HypervisorCsr}
use Rattle.arch_defs.specs.declared.csr_names.HypervisorCsr.TheVariants.{Hstatus, Hedeleg, Htimedelta, Hgeie, Hgeip, Htval, Htinst, Hgatp}
use Rattle.arch_defs.specs.declared.csr_names.InterruptCsr.{InterruptCsr}
use Rattle.arch_defs.specs.declared.csr_names.InterruptCsr.TheVariants.{Sie, Sip, Vsie, Vsip, Hideleg, Hie, Hip, Hvip}
use Rattle.arch_defs.specs.declared.csr_names.Register.{Register}
use Rattle.arch_defs.specs.declared.csr_names.Register.TheVariants.{Supervisor, VirtualSupervisor, Interrupt, Enable, Hypervisor, Time, GuestTime}
use Rattle.arch_defs.specs.declared.modes.Mode.{Mode}
use Rattle.arch_defs.specs.declared.registers.SupervisorCsrs.{SupervisorCsrs}
use Rattle.arch_defs.specs.declared.registers.Csrs.{Csrs}
use Rattle.arch_defs.specs.declared.roots.GuestMode.{GuestMode}
use Rattle.arch_defs.specs.declared.roots.GuestMode.TheVariants.{Sv39x4, Sv48x4}
use Rattle.arch_defs.specs.declared.roots.GuestRoot.{GuestRoot}
use Rattle.arch_defs.specs.declared.roots.GuestRoot.TheVariants as guest
use Rattle.arch_defs.specs.declared.roots.SupervisorMode.{SupervisorMode}
use Rattle.arch_defs.specs.declared.roots.SupervisorMode.TheVariants.{Sv39, Sv48}
use Rattle.arch_defs.specs.declared.roots.SupervisorRoot.{SupervisorRoot}
use Rattle.arch_defs.specs.declared.roots.SupervisorRoot.TheVariants as supervisor
use Rattle.arch_defs.specs.CsrAccess.{enable_written, hypervisor_written, interrupts_written, named_to_write, supervisor_written, write_csr, written, written_by}
use Rattle.arch_defs.specs.Bits.{field}
use Rattle.arch_defs.specs.CsrBits.{epc_bits, guest_root_in, guest_root_of, hedeleg_bits, hgatp_bits, satp_bits, supervisor_root_in, supervisor_root_of, tvec_bits}
use Rattle.arch_defs.specs.Roots.{guest_mode_number, guest_mode_of, supervisor_mode_number, supervisor_mode_of}
use Rattle.instruction_laws.proofs.Cached.{either}
use Rattle.run_laws.specs.StorableStates.{IsCodeAddress, stored_form, supervisor_form}

-- the bits that a register stores are stored as they are
tvec_stored : (v : ℕ) → tvec_bits (tvec_bits v) ≡ tvec_bits v
unfolding tvec_bits
tvec_stored v = omega arith

epc_stored : (v : ℕ) → epc_bits (epc_bits v) ≡ epc_bits v
unfolding epc_bits
epc_stored v = omega arith

hedeleg_stored : (v : ℕ) → hedeleg_bits (hedeleg_bits v) ≡ hedeleg_bits v
unfolding hedeleg_bits
hedeleg_stored v = omega arith

-- what epc stores is what pc can have
pub code_stored : (address : ℕ) → IsCodeAddress address → epc_bits address ≡ address
unfolding epc_bits
code_stored address (whole, fits) = omega arith

pub epc_code : (address : ℕ) → epc_bits address ≡ address → IsCodeAddress address
unfolding epc_bits
epc_code address is = (omega arith, omega arith)

-- a root as it is stored
abbrev pub AtpStored : SupervisorRoot → Type 0
AtpStored root = supervisor_root_of root (satp_bits root) ≡ root

pub atp_bare : AtpStored supervisor.Bare
unfolding supervisor_root_of satp_bits
atp_bare = refl

-- the number of a mode is that of no other
supervisor_mode_read : (mode : SupervisorMode) → supervisor_mode_of (supervisor_mode_number mode) ≡ Some mode
supervisor_mode_read Sv39 = refl
supervisor_mode_read Sv48 = refl

supervisor_mode_small : (mode : SupervisorMode) → supervisor_mode_number mode < 2 ^ 4
supervisor_mode_small Sv39 = omega arith
supervisor_mode_small Sv48 = omega arith

pub atp_table : (mode : SupervisorMode) (asid ppn : ℕ) → asid < 2 ^ 16 → ppn < 2 ^ 44 → AtpStored (supervisor.Table mode asid ppn)
unfolding supervisor_root_of satp_bits
atp_table mode asid ppn of_16 of_44 = by (supervisor_mode_number mode) (supervisor_mode_small mode) (supervisor_mode_read mode)
  where
    by : (number : ℕ) → number < 2 ^ 4 → supervisor_mode_of number ≡ Some mode
        → supervisor_root_in (supervisor.Table mode asid ppn) (number * 2 ^ 60 + asid % 2 ^ 16 * 2 ^ 44 + ppn % 2 ^ 44)
        (supervisor_mode_of (field 60 4 (number * 2 ^ 60 + asid % 2 ^ 16 * 2 ^ 44 + ppn % 2 ^ 44)))
        ≡ supervisor.Table mode asid ppn
    by number small is =
        let high : field 60 4 (number * 2 ^ 60 + asid % 2 ^ 16 * 2 ^ 44 + ppn % 2 ^ 44) ≡ number = omega (arith, small) in
        let first : field 44 16 (number * 2 ^ 60 + asid % 2 ^ 16 * 2 ^ 44 + ppn % 2 ^ 44) ≡ asid = omega (arith, of_16) in
        let last : field 0 44 (number * 2 ^ 60 + asid % 2 ^ 16 * 2 ^ 44 + ppn % 2 ^ 44) ≡ ppn = omega (arith, of_44) in
        rw (high, is, first, last) refl

pub atp_stored : (kept : SupervisorRoot) (v : ℕ) → AtpStored kept → AtpStored (supervisor_root_of kept v)
unfolding supervisor_root_of
atp_stored kept v is = by (supervisor_mode_of (field 60 4 v))
  where
    by : (mode : Option SupervisorMode) → AtpStored (supervisor_root_in kept v mode)
    by (Some mode) = atp_table mode (field 44 16 v) (field 0 44 v) (omega arith) (omega arith)
    by None = either AtpStored (field 60 4 v == 0) supervisor.Bare kept atp_bare is

abbrev pub HgatpStored : GuestRoot → Type 0
HgatpStored root = guest_root_of (hgatp_bits root) ≡ root

hgatp_bare : HgatpStored guest.Bare
unfolding guest_root_of hgatp_bits
hgatp_bare = refl

guest_mode_read : (mode : GuestMode) → guest_mode_of (guest_mode_number mode) ≡ Some mode
guest_mode_read Sv39x4 = refl
guest_mode_read Sv48x4 = refl

guest_mode_small : (mode : GuestMode) → guest_mode_number mode < 2 ^ 4
guest_mode_small Sv39x4 = omega arith
guest_mode_small Sv48x4 = omega arith

hgatp_table : (mode : GuestMode) (vmid ppn : ℕ) → vmid < 2 ^ 7 → ppn % 4 ≡ 0 → ppn < 2 ^ 44 → HgatpStored (guest.Table mode vmid ppn)
unfolding guest_root_of hgatp_bits
hgatp_table mode vmid ppn of_7 whole of_44 = by (guest_mode_number mode) (guest_mode_small mode) (guest_mode_read mode)
  where
    by : (number : ℕ) → number < 2 ^ 4 → guest_mode_of number ≡ Some mode
        → guest_root_in (number * 2 ^ 60 + vmid % 2 ^ 7 * 2 ^ 44 + field 2 42 ppn * 2 ^ 2)
        (guest_mode_of (field 60 4 (number * 2 ^ 60 + vmid % 2 ^ 7 * 2 ^ 44 + field 2 42 ppn * 2 ^ 2)))
        ≡ guest.Table mode vmid ppn
    by number small is =
        let high : field 60 4 (number * 2 ^ 60 + vmid % 2 ^ 7 * 2 ^ 44 + field 2 42 ppn * 2 ^ 2) ≡ number = omega (arith, small) in
        let first : field 44 7 (number * 2 ^ 60 + vmid % 2 ^ 7 * 2 ^ 44 + field 2 42 ppn * 2 ^ 2) ≡ vmid = omega (arith, of_7) in
        let last : field 2 42 (number * 2 ^ 60 + vmid % 2 ^ 7 * 2 ^ 44 + field 2 42 ppn * 2 ^ 2) * 2 ^ 2 ≡ ppn = omega (arith, whole, of_44) in
        rw (high, is, first, last) refl

pub hgatp_stored : (v : ℕ) → HgatpStored (guest_root_of v)
unfolding guest_root_of
hgatp_stored v = by (guest_mode_of (field 60 4 v))
  where
    by : (mode : Option GuestMode) → HgatpStored (guest_root_in v mode)
    by (Some mode) = hgatp_table mode (field 44 7 v) (field 2 42 v * 2 ^ 2) (omega arith) (omega arith) (omega arith)
    by None = hgatp_bare

-- the registers after a write
abbrev pub SupervisorStored : SupervisorCsrs → Type 0
SupervisorStored registers = supervisor_form registers ≡ registers

supervisor_stored : (registers : SupervisorCsrs) (r : SupervisorCsr) (v : ℕ) → SupervisorStored registers → SupervisorStored (supervisor_written registers r v)
unfolding supervisor_written
supervisor_stored registers Status v is = λ i. record (is i) { status = (supervisor_written registers Status v).status }
supervisor_stored registers Tvec v is = λ i. record (is i) { tvec = tvec_stored v i }
supervisor_stored registers Scratch v is = λ i. record (is i) { scratch = v }
supervisor_stored registers Epc v is = λ i. record (is i) { epc = epc_stored v i }
supervisor_stored registers Cause v is = λ i. record (is i) { cause = v }
supervisor_stored registers Tval v is = λ i. record (is i) { tval = v }
supervisor_stored registers Atp v is = λ i. record (is i) { atp = atp_stored registers.atp v (ap (λ b. b.atp) is) i }

-- the registers after a write
abbrev pub CsrsStored : Csrs → Type 0
CsrsStored csrs = stored_form csrs ≡ csrs

interrupts_stored : (csrs : Csrs) (r : InterruptCsr) (v : ℕ) → CsrsStored csrs → CsrsStored (interrupts_written csrs r v)
unfolding interrupts_written
interrupts_stored csrs Sie v is = λ i. record (is i) { sie = (interrupts_written csrs Sie v).sie }
interrupts_stored csrs Sip v is = λ i. record (is i) { sip = (interrupts_written csrs Sip v).sip }
interrupts_stored csrs Vsie v is = λ i. record (is i) { hie = (interrupts_written csrs Vsie v).hie }
interrupts_stored csrs Vsip v is = λ i. record (is i) { hvip = (interrupts_written csrs Vsip v).hvip }
interrupts_stored csrs Hideleg v is = λ i. record (is i) { hideleg = (interrupts_written csrs Hideleg v).hideleg }
interrupts_stored csrs Hie v is = λ i. record (is i) { hie = (interrupts_written csrs Hie v).hie }
interrupts_stored csrs Hip v is = λ i. record (is i) { hvip = (interrupts_written csrs Hip v).hvip }
interrupts_stored csrs Hvip v is = λ i. record (is i) { hvip = (interrupts_written csrs Hvip v).hvip }

bit_stored : (csrs : Csrs) (r : EnableCsr) (v : ℕ) → CsrsStored csrs → CsrsStored (enable_written csrs r v)
unfolding enable_written
bit_stored csrs Scounteren v is = λ i. record (is i) { scounteren_tm = (enable_written csrs Scounteren v).scounteren_tm }
bit_stored csrs Senvcfg v is = λ i. record (is i) { senvcfg_fiom = (enable_written csrs Senvcfg v).senvcfg_fiom }
bit_stored csrs Hcounteren v is = λ i. record (is i) { hcounteren_tm = (enable_written csrs Hcounteren v).hcounteren_tm }
bit_stored csrs Henvcfg v is = λ i. record (is i) { henvcfg_fiom = (enable_written csrs Henvcfg v).henvcfg_fiom }

hypervisor_stored : (csrs : Csrs) (r : HypervisorCsr) (v : ℕ) → CsrsStored csrs → CsrsStored (hypervisor_written csrs r v)
unfolding hypervisor_written
hypervisor_stored csrs Hstatus v is = λ i. record (is i) { hstatus = (hypervisor_written csrs Hstatus v).hstatus }
hypervisor_stored csrs Hedeleg v is = λ i. record (is i) { hedeleg = hedeleg_stored v i }
hypervisor_stored csrs Htimedelta v is = λ i. record (is i) { htimedelta = v }
hypervisor_stored csrs Hgeie v is = is
hypervisor_stored csrs Hgeip v is = is
hypervisor_stored csrs Htval v is = λ i. record (is i) { htval = v }
hypervisor_stored csrs Htinst v is = λ i. record (is i) { htinst = v }
hypervisor_stored csrs Hgatp v is = λ i. record (is i) { hgatp = hgatp_stored v i }

pub written_stored : (csrs : Csrs) (r : Register) (v : ℕ) → CsrsStored csrs → CsrsStored (written csrs r v)
unfolding written
written_stored csrs (Supervisor r) v is = λ i. record (is i) { hs = supervisor_stored csrs.hs r v (ap (λ c. c.hs) is) i }
written_stored csrs (VirtualSupervisor r) v is = λ i. record (is i) { vs = supervisor_stored csrs.vs r v (ap (λ c. c.vs) is) i }
written_stored csrs (Interrupt r) v is = interrupts_stored csrs r v is
written_stored csrs (Enable r) v is = bit_stored csrs r v is
written_stored csrs (Hypervisor r) v is = hypervisor_stored csrs r v is
written_stored csrs Time v is = is
written_stored csrs GuestTime v is = is

-- by a mode and a number, if it is made
abbrev pub WriteStored : Result Csrs CsrEnd → Type 0
WriteStored (Ok csrs) = CsrsStored csrs
WriteStored (Err end) = Unit {0}

changed_stored : (csrs : Csrs) (r : Result Register CsrEnd) (v : ℕ) → CsrsStored csrs → WriteStored (written_by csrs r v)
changed_stored csrs (Ok r) v is = written_stored csrs r v is
changed_stored csrs (Err end) v is = tt

pub write_stored : (csrs : Csrs) (mode : Mode) (number v : ℕ) → CsrsStored csrs → WriteStored (write_csr csrs mode number v)
unfolding write_csr
write_stored csrs mode number v is = changed_stored csrs (named_to_write csrs mode number) v is
