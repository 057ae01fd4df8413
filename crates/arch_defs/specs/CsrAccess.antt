-- Reads and writes of the control and status registers, by mode and number: a value or new registers, an
-- illegal instruction (code 2), or a virtual instruction (code 22) (Privileged Architecture 20211203, 2.1,
-- 4.1, 8.2 and 8.6.1).
use Rattle.std.specs.Prelude.{ℕ, ◌+◌, ◌%◌, ◌^◌, ◌&&◌, Option, Some, None, Result, Ok, Err, nat_le, if◌then◌else◌}
use Rattle.arch_defs.specs.declared.modes.Mode.{Mode}
use Rattle.arch_defs.specs.declared.modes.Mode.TheVariants.{HS, U, VS, VU}
use Rattle.arch_defs.specs.declared.registers.SupervisorCsrs.{SupervisorCsrs}
use Rattle.arch_defs.specs.declared.registers.Csrs.{Csrs}
use Rattle.arch_defs.specs.declared.csr_names.SupervisorCsr.{SupervisorCsr}
use Rattle.arch_defs.specs.declared.csr_names.SupervisorCsr.TheVariants.{Status, Tvec, Scratch, Epc, Cause, Tval, Atp}
use Rattle.arch_defs.specs.declared.csr_names.InterruptCsr.{InterruptCsr}
use Rattle.arch_defs.specs.declared.csr_names.InterruptCsr.TheVariants.{Sie, Sip, Vsie, Vsip, Hideleg, Hie, Hip, Hvip}
use Rattle.arch_defs.specs.declared.csr_names.EnableCsr.{EnableCsr}
use Rattle.arch_defs.specs.declared.csr_names.EnableCsr.TheVariants.{Scounteren, Senvcfg, Hcounteren, Henvcfg}
use Rattle.arch_defs.specs.declared.csr_names.HypervisorCsr.{HypervisorCsr}
use Rattle.arch_defs.specs.declared.csr_names.HypervisorCsr.TheVariants.{Hstatus, Hedeleg, Htimedelta, Hgeie, Hgeip, Htval, Htinst, Hgatp}
use Rattle.arch_defs.specs.declared.csr_names.Register.{Register}
use Rattle.arch_defs.specs.declared.csr_names.Register.TheVariants.{Supervisor, VirtualSupervisor, Interrupt, Enable, Hypervisor, Time, GuestTime}
use Rattle.arch_defs.specs.declared.csr_names.CsrEnd.{CsrEnd}
use Rattle.arch_defs.specs.declared.csr_names.CsrEnd.TheVariants.{Illegal, Virtual}
use Rattle.arch_defs.specs.CsrNames.{register_of}
use Rattle.arch_defs.specs.Bits.{bit, bit_number}
use Rattle.arch_defs.specs.CsrBits.{sstatus_bits, sstatus_of, hstatus_bits, hstatus_of, sip_bits, supervisor_interrupts, hip_bits, virtual_interrupts, delegated, delegated_become, tvec_bits, epc_bits, hedeleg_bits, satp_bits, supervisor_root_of, hgatp_bits, guest_root_of}

-- what a supervisor register shows: sstatus 4.1.1, stvec 4.1.2, sscratch 4.1.6, sepc 4.1.7, scause 4.1.8,
-- stval 4.1.9, satp 4.1.11; vsstatus 8.2.11, vstvec 8.2.13, vsscratch 8.2.14, vsepc 8.2.15, vscause 8.2.16,
-- vstval 8.2.17, vsatp 8.2.18. scause, stval and their copies hold all values (own)
unfoldable pub supervisor_shown : SupervisorCsrs → SupervisorCsr → ℕ
supervisor_shown registers Status = sstatus_bits registers.status
supervisor_shown registers Tvec = tvec_bits registers.tvec
supervisor_shown registers Scratch = registers.scratch
supervisor_shown registers Epc = epc_bits registers.epc
supervisor_shown registers Cause = registers.cause
supervisor_shown registers Tval = registers.tval
supervisor_shown registers Atp = satp_bits registers.atp

-- the registers after a write
unfoldable pub supervisor_written : SupervisorCsrs → SupervisorCsr → ℕ → SupervisorCsrs
supervisor_written registers Status v = record registers { status = sstatus_of v }
supervisor_written registers Tvec v = record registers { tvec = tvec_bits v }
supervisor_written registers Scratch v = record registers { scratch = v }
supervisor_written registers Epc v = record registers { epc = epc_bits v }
supervisor_written registers Cause v = record registers { cause = v }
supervisor_written registers Tval v = record registers { tval = v }
supervisor_written registers Atp v = record registers { atp = supervisor_root_of registers.atp v }

-- sie and sip 4.1.3; vsie and vsip 8.2.12, which show hie and hip, shifted, where hideleg delegates; hideleg
-- 8.2.2; hie, hip and hvip 8.2.3; hip shows hvip
unfoldable pub interrupts_shown : Csrs → InterruptCsr → ℕ
interrupts_shown csrs Sie = sip_bits csrs.sie
interrupts_shown csrs Sip = sip_bits csrs.sip
interrupts_shown csrs Vsie = sip_bits (delegated csrs.hideleg csrs.hie)
interrupts_shown csrs Vsip = sip_bits (delegated csrs.hideleg csrs.hvip)
interrupts_shown csrs Hideleg = hip_bits csrs.hideleg
interrupts_shown csrs Hie = hip_bits csrs.hie
interrupts_shown csrs Hip = hip_bits csrs.hvip
interrupts_shown csrs Hvip = hip_bits csrs.hvip

-- sip, vsip and hip change the software interrupt alone, the latter two in hvip
unfoldable pub interrupts_written : Csrs → InterruptCsr → ℕ → Csrs
interrupts_written csrs Sie v = record csrs { sie = supervisor_interrupts v }
interrupts_written csrs Sip v = record csrs { sip = record csrs.sip { software = bit 1 v } }
interrupts_written csrs Vsie v =
    record csrs { hie = delegated_become csrs.hideleg csrs.hie (supervisor_interrupts v) }
interrupts_written csrs Vsip v =
    record csrs {
      hvip =
          record csrs.hvip { software = if csrs.hideleg.software then bit 1 v else csrs.hvip.software };
    }
interrupts_written csrs Hideleg v = record csrs { hideleg = virtual_interrupts v }
interrupts_written csrs Hie v = record csrs { hie = virtual_interrupts v }
interrupts_written csrs Hip v = record csrs { hvip = record csrs.hvip { software = bit 2 v } }
interrupts_written csrs Hvip v = record csrs { hvip = virtual_interrupts v }

-- scounteren 4.1.5 and hcounteren 8.2.6: TM 1; senvcfg 4.1.10 and henvcfg 8.2.5: FIOM 0, which has no effect
-- here
unfoldable pub enable_shown : Csrs → EnableCsr → ℕ
enable_shown csrs Scounteren = bit_number 1 csrs.scounteren_tm
enable_shown csrs Senvcfg = bit_number 0 csrs.senvcfg_fiom
enable_shown csrs Hcounteren = bit_number 1 csrs.hcounteren_tm
enable_shown csrs Henvcfg = bit_number 0 csrs.henvcfg_fiom

unfoldable pub enable_written : Csrs → EnableCsr → ℕ → Csrs
enable_written csrs Scounteren v = record csrs { scounteren_tm = bit 1 v }
enable_written csrs Senvcfg v = record csrs { senvcfg_fiom = bit 0 v }
enable_written csrs Hcounteren v = record csrs { hcounteren_tm = bit 1 v }
enable_written csrs Henvcfg v = record csrs { henvcfg_fiom = bit 0 v }

-- hstatus 8.2.1, hedeleg 8.2.2, htimedelta 8.2.7, htval 8.2.8, htinst 8.2.9, hgatp 8.2.10;
-- hgeie and hgeip 8.2.4 read zero, as GEILEN is 0 (own); htval and htinst hold all values (own)
unfoldable pub hypervisor_shown : Csrs → HypervisorCsr → ℕ
hypervisor_shown csrs Hstatus = hstatus_bits csrs.hstatus
hypervisor_shown csrs Hedeleg = hedeleg_bits csrs.hedeleg
hypervisor_shown csrs Htimedelta = csrs.htimedelta
hypervisor_shown csrs Hgeie = 0
hypervisor_shown csrs Hgeip = 0
hypervisor_shown csrs Htval = csrs.htval
hypervisor_shown csrs Htinst = csrs.htinst
hypervisor_shown csrs Hgatp = hgatp_bits csrs.hgatp

unfoldable pub hypervisor_written : Csrs → HypervisorCsr → ℕ → Csrs
hypervisor_written csrs Hstatus v = record csrs { hstatus = hstatus_of v }
hypervisor_written csrs Hedeleg v = record csrs { hedeleg = hedeleg_bits v }
hypervisor_written csrs Htimedelta v = record csrs { htimedelta = v }
hypervisor_written csrs Hgeie v = csrs
hypervisor_written csrs Hgeip v = csrs
hypervisor_written csrs Htval v = record csrs { htval = v }
hypervisor_written csrs Htinst v = record csrs { htinst = v }
hypervisor_written csrs Hgatp v = record csrs { hgatp = guest_root_of v }

-- what a register shows; time with V = 1 is ahead by htimedelta (8.2.7)
unfoldable pub shown : Csrs → Register → ℕ
shown csrs (Supervisor r) = supervisor_shown csrs.hs r
shown csrs (VirtualSupervisor r) = supervisor_shown csrs.vs r
shown csrs (Interrupt r) = interrupts_shown csrs r
shown csrs (Enable r) = enable_shown csrs r
shown csrs (Hypervisor r) = hypervisor_shown csrs r
shown csrs Time = csrs.time
shown csrs GuestTime = (csrs.time + csrs.htimedelta) % 2 ^ 64

-- the registers after a write; time is read-only
unfoldable pub written : Csrs → Register → ℕ → Csrs
written csrs (Supervisor r) v = record csrs { hs = supervisor_written csrs.hs r v }
written csrs (VirtualSupervisor r) v = record csrs { vs = supervisor_written csrs.vs r v }
written csrs (Interrupt r) v = interrupts_written csrs r v
written csrs (Enable r) v = enable_written csrs r v
written csrs (Hypervisor r) v = hypervisor_written csrs r v
written csrs Time v = csrs
written csrs GuestTime v = csrs

-- U reaches time alone, where scounteren lets it (4.1.5)
unfoldable pub reached_in_u : Csrs → Register → Result Register CsrEnd
reached_in_u csrs Time = if csrs.scounteren_tm then Ok Time else Err Illegal
reached_in_u csrs r = Err Illegal

-- in VS a number of a supervisor register names the VS copy (8.2.11 to 8.2.18); scounteren and senvcfg have
-- none. A virtual instruction is satp with VTVM = 1 (8.2.1), time that hcounteren keeps back (8.2.6), and
-- what HS alone reaches (8.6.1; own: these decide between codes 2 and 22)
unfoldable pub reached_in_vs : Csrs → Register → Result Register CsrEnd
reached_in_vs csrs (Supervisor Atp) = if csrs.hstatus.vtvm then Err Virtual else Ok (VirtualSupervisor Atp)
reached_in_vs csrs (Supervisor r) = Ok (VirtualSupervisor r)
reached_in_vs csrs (Interrupt Sie) = Ok (Interrupt Vsie)
reached_in_vs csrs (Interrupt Sip) = Ok (Interrupt Vsip)
reached_in_vs csrs (Enable Scounteren) = Ok (Enable Scounteren)
reached_in_vs csrs (Enable Senvcfg) = Ok (Enable Senvcfg)
reached_in_vs csrs Time = if csrs.hcounteren_tm then Ok GuestTime else Err Virtual
reached_in_vs csrs r = Err Virtual

-- VU reaches time alone, where hcounteren and scounteren let it (8.2.6, 4.1.5); all else is a virtual
-- instruction (8.6.1)
unfoldable pub reached_in_vu : Csrs → Register → Result Register CsrEnd
reached_in_vu csrs Time = if csrs.hcounteren_tm && csrs.scounteren_tm then Ok GuestTime else Err Virtual
reached_in_vu csrs r = Err Virtual

-- what a mode reaches by the number that names this register in HS
unfoldable pub reached : Csrs → Mode → Register → Result Register CsrEnd
reached csrs HS r = Ok r
reached csrs U r = reached_in_u csrs r
reached csrs VS r = reached_in_vs csrs r
reached csrs VU r = reached_in_vu csrs r

-- what a number reaches; one that names nothing is illegal in every mode
unfoldable pub reached_by : Csrs → Mode → Option Register → Result Register CsrEnd
reached_by csrs mode None = Err Illegal
reached_by csrs mode (Some r) = reached csrs mode r

abbrev pub named : Csrs → Mode → ℕ → Result Register CsrEnd
named csrs mode number = reached_by csrs mode (register_of number)

-- numbers from C00 on are those of read-only registers (2.1): a write is illegal in every mode
unfoldable pub named_to_write : Csrs → Mode → ℕ → Result Register CsrEnd
named_to_write csrs mode number = if nat_le 0xC00 number then Err Illegal else named csrs mode number

abbrev pub value_of : Csrs → Result Register CsrEnd → Result ℕ CsrEnd
value_of csrs (Ok r) = Ok (shown csrs r)
value_of csrs (Err e) = Err e

abbrev pub written_by : Csrs → Result Register CsrEnd → ℕ → Result Csrs CsrEnd
written_by csrs (Ok r) v = Ok (written csrs r v)
written_by csrs (Err e) v = Err e

-- a read: a value, or the exception
unfoldable pub read_csr : Csrs → Mode → ℕ → Result ℕ CsrEnd
read_csr csrs mode number = value_of csrs (named csrs mode number)

-- a write: new registers, or the exception
unfoldable pub write_csr : Csrs → Mode → ℕ → ℕ → Result Csrs CsrEnd
write_csr csrs mode number v = written_by csrs (named_to_write csrs mode number) v
