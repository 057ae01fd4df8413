-- The control and status registers of a form: each as HS reads it, in the order of their numbers (own).
use Rattle.std.specs.Prelude.{ℕ, List, [], ◌∷◌, ◌++◌, drop, map, slice_index}
use Rattle.arch_defs.specs.declared.csr_names.EnableCsr.TheVariants.{Scounteren, Senvcfg, Hcounteren, Henvcfg}
use Rattle.arch_defs.specs.declared.csr_names.HypervisorCsr.TheVariants.{Hstatus, Hedeleg, Htimedelta, Htval, Htinst, Hgatp}
use Rattle.arch_defs.specs.declared.csr_names.InterruptCsr.TheVariants.{Sie, Hideleg, Hie, Hvip}
use Rattle.arch_defs.specs.declared.csr_names.Register.{Register}
use Rattle.arch_defs.specs.declared.csr_names.Register.TheVariants.{Supervisor, VirtualSupervisor, Interrupt, Enable, Hypervisor}
use Rattle.arch_defs.specs.declared.csr_names.SupervisorCsr.TheVariants.{Status, Tvec, Scratch, Epc, Cause, Tval, Atp}
use Rattle.arch_defs.specs.declared.registers.Csrs.{Csrs}
use Rattle.arch_defs.specs.Bits.{bit, bit_number}
use Rattle.arch_defs.specs.CsrAccess.{shown, written}
use Rattle.arch_defs.specs.Registers.{csrs_at_reset}

-- sstatus to stval, and satp to hgatp; between them is SSIP alone, since the clock and the console set the
-- other bits of sip
abbrev pub before_sip : List Register
before_sip =
    Supervisor Status ∷ Interrupt Sie ∷ Supervisor Tvec ∷ Enable Scounteren ∷ Enable Senvcfg
    ∷ Supervisor Scratch ∷ Supervisor Epc ∷ Supervisor Cause ∷ Supervisor Tval ∷ []

abbrev pub after_sip : List Register
after_sip =
    Supervisor Atp ∷ VirtualSupervisor Status ∷ VirtualSupervisor Tvec ∷ VirtualSupervisor Scratch
    ∷ VirtualSupervisor Epc ∷ VirtualSupervisor Cause ∷ VirtualSupervisor Tval ∷ VirtualSupervisor Atp
    ∷ Hypervisor Hstatus ∷ Hypervisor Hedeleg ∷ Interrupt Hideleg ∷ Interrupt Hie ∷ Hypervisor Htimedelta
    ∷ Enable Hcounteren ∷ Enable Henvcfg ∷ Hypervisor Htval ∷ Interrupt Hvip ∷ Hypervisor Htinst
    ∷ Hypervisor Hgatp ∷ []

-- what they show, 29 numbers; SSIP as 0 or 1
abbrev pub csr_numbers : Csrs → List ℕ
csr_numbers csrs =
    map (shown csrs) before_sip ++ bit_number 0 csrs.sip.software ∷ map (shown csrs) after_sip

-- registers after each of these was written, in turn
abbrev pub all_written : Csrs → List Register → List ℕ → Csrs
all_written csrs [] ns = csrs
all_written csrs (r ∷ rs) [] = csrs
all_written csrs (r ∷ rs) (n ∷ ns) = all_written (written csrs r n) rs ns

abbrev pub with_ssip : Csrs → ℕ → Csrs
with_ssip csrs n = record csrs { sip = record csrs.sip { software = bit 0 n } }

-- the registers that these 29 numbers give
unfoldable pub csrs_in : List ℕ → Csrs
csrs_in ns =
    all_written (with_ssip (all_written csrs_at_reset before_sip ns) (slice_index ns 9)) after_sip
    (drop 10 ns)
