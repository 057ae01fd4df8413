-- The numbers of the control and status registers, and what each names in HS
-- (Privileged Architecture 20211203, tables 2.2 to 2.4).
use Rattle.std.specs.Prelude.{ℕ, ◌/◌, ◌^◌, ◌==◌, Option, Some, None, if◌then◌else◌}
use Rattle.arch_defs.specs.declared.csr_names.SupervisorCsr.TheVariants as supervisor
use Rattle.arch_defs.specs.declared.csr_names.InterruptCsr.TheVariants as interrupt
use Rattle.arch_defs.specs.declared.csr_names.EnableCsr.TheVariants as one
use Rattle.arch_defs.specs.declared.csr_names.HypervisorCsr.TheVariants as hypervisor
use Rattle.arch_defs.specs.declared.csr_names.Register.{Register}
use Rattle.arch_defs.specs.declared.csr_names.Register.TheVariants.{Supervisor, VirtualSupervisor, Interrupt, Enable, Hypervisor, Time}

-- 100 to 180: the supervisor's
unfoldable pub supervisor_register : ℕ → Option Register
supervisor_register n =
    if n == 0x100 then Some (Supervisor supervisor.Status)
    else if n == 0x104 then Some (Interrupt interrupt.Sie)
    else if n == 0x105 then Some (Supervisor supervisor.Tvec)
    else if n == 0x106 then Some (Enable one.Scounteren)
    else if n == 0x10A then Some (Enable one.Senvcfg)
    else if n == 0x140 then Some (Supervisor supervisor.Scratch)
    else if n == 0x141 then Some (Supervisor supervisor.Epc)
    else if n == 0x142 then Some (Supervisor supervisor.Cause)
    else if n == 0x143 then Some (Supervisor supervisor.Tval)
    else if n == 0x144 then Some (Interrupt interrupt.Sip)
    else if n == 0x180 then Some (Supervisor supervisor.Atp)
    else None

-- 200 to 280: the virtual supervisor's
unfoldable pub virtual_supervisor_register : ℕ → Option Register
virtual_supervisor_register n =
    if n == 0x200 then Some (VirtualSupervisor supervisor.Status)
    else if n == 0x204 then Some (Interrupt interrupt.Vsie)
    else if n == 0x205 then Some (VirtualSupervisor supervisor.Tvec)
    else if n == 0x240 then Some (VirtualSupervisor supervisor.Scratch)
    else if n == 0x241 then Some (VirtualSupervisor supervisor.Epc)
    else if n == 0x242 then Some (VirtualSupervisor supervisor.Cause)
    else if n == 0x243 then Some (VirtualSupervisor supervisor.Tval)
    else if n == 0x244 then Some (Interrupt interrupt.Vsip)
    else if n == 0x280 then Some (VirtualSupervisor supervisor.Atp)
    else None

-- 600 to 680: the hypervisor's
unfoldable pub hypervisor_register : ℕ → Option Register
hypervisor_register n =
    if n == 0x600 then Some (Hypervisor hypervisor.Hstatus)
    else if n == 0x602 then Some (Hypervisor hypervisor.Hedeleg)
    else if n == 0x603 then Some (Interrupt interrupt.Hideleg)
    else if n == 0x604 then Some (Interrupt interrupt.Hie)
    else if n == 0x605 then Some (Hypervisor hypervisor.Htimedelta)
    else if n == 0x606 then Some (Enable one.Hcounteren)
    else if n == 0x607 then Some (Hypervisor hypervisor.Hgeie)
    else if n == 0x60A then Some (Enable one.Henvcfg)
    else if n == 0x643 then Some (Hypervisor hypervisor.Htval)
    else if n == 0x644 then Some (Interrupt interrupt.Hip)
    else if n == 0x645 then Some (Interrupt interrupt.Hvip)
    else if n == 0x64A then Some (Hypervisor hypervisor.Htinst)
    else if n == 0x680 then Some (Hypervisor hypervisor.Hgatp)
    else None

-- C00 to FFF are read-only (2.1); cycle and instret are none of these registers (own)
unfoldable pub read_only_register : ℕ → Option Register
read_only_register n =
    if n == 0xC01 then Some Time
    else if n == 0xE12 then Some (Hypervisor hypervisor.Hgeip)
    else None

-- what a number names in HS, by its upper four bits
unfoldable pub register_of : ℕ → Option Register
register_of n =
    if n / 2 ^ 8 == 1 then supervisor_register n
    else if n / 2 ^ 8 == 2 then virtual_supervisor_register n
    else if n / 2 ^ 8 == 6 then hypervisor_register n
    else read_only_register n
