-- Laws of register access: a read after a write gives the value from before with the writable bits replaced,
-- and a write leaves what the other registers show, but for named aliases.
use Rattle.std.specs.Prelude.{ℕ, ◌≡◌, ◌≢◌, Bool, true, false, Result, Ok, Err, ◌<◌, ◌+◌, ◌-◌, ◌^◌, ◌==◌, ◌||◌, bit_and, Option, Some, None, IfSome, if◌then◌else◌}
use Rattle.arch_defs.specs.declared.modes.Mode.{Mode}
use Rattle.arch_defs.specs.declared.modes.Mode.TheVariants.{HS, VS, VU}
use Rattle.arch_defs.specs.declared.registers.Csrs.{Csrs}
use Rattle.arch_defs.specs.declared.csr_names.SupervisorCsr.{SupervisorCsr}
use Rattle.arch_defs.specs.declared.csr_names.SupervisorCsr.TheVariants.{Status, Tvec, Scratch, Epc, Cause, Tval, Atp}
use Rattle.arch_defs.specs.declared.csr_names.InterruptCsr.{InterruptCsr}
use Rattle.arch_defs.specs.declared.csr_names.InterruptCsr.TheVariants.{Sie, Sip, Vsie, Vsip, Hideleg, Hie, Hip, Hvip}
use Rattle.arch_defs.specs.declared.csr_names.EnableCsr.{EnableCsr}
use Rattle.arch_defs.specs.declared.csr_names.EnableCsr.TheVariants.{Scounteren, Senvcfg, Hcounteren, Henvcfg}
use Rattle.arch_defs.specs.declared.csr_names.HypervisorCsr.{HypervisorCsr}
use Rattle.arch_defs.specs.declared.csr_names.HypervisorCsr.TheVariants.{Hstatus, Hedeleg, Htimedelta, Hgeie, Hgeip, Htval, Htinst, Hgatp}
use Rattle.arch_defs.specs.declared.csr_names.Register.{Register}
use Rattle.arch_defs.specs.declared.csr_names.Register.TheVariants.{Supervisor, VirtualSupervisor, Interrupt, Enable, Hypervisor, Time, GuestTime}
use Rattle.arch_defs.specs.declared.csr_names.CsrEnd.{CsrEnd}
use Rattle.arch_defs.specs.declared.csr_names.CsrEnd.TheVariants.{Illegal}
use Rattle.arch_defs.specs.Bits.{bit_number, field}
use Rattle.arch_defs.specs.CsrBits.{sip_bits}
use Rattle.arch_defs.specs.CsrAccess.{named_to_write, shown, written, read_csr, write_csr}

-- a number in which the bits of a mask are those of another
abbrev pub merged : ℕ → ℕ → ℕ → ℕ
merged mask before v = bit_and before (2 ^ 64 - 1 - mask) + bit_and v mask

abbrev pub all_bits : ℕ
all_bits = 2 ^ 64 - 1

-- the writable bits of a supervisor register; a root has choices of its own
abbrev pub supervisor_mask : SupervisorCsr → Option ℕ
supervisor_mask Status = Some 0xC0122
supervisor_mask Tvec = Some 0xFFFFFFFFFFFFFFFD
supervisor_mask Scratch = Some all_bits
supervisor_mask Epc = Some 0xFFFFFFFFFFFFFFFC
supervisor_mask Cause = Some all_bits
supervisor_mask Tval = Some all_bits
supervisor_mask Atp = None

-- of a register of interrupts; vsie and vsip by what hideleg delegates
abbrev pub interrupts_mask : Csrs → InterruptCsr → ℕ
interrupts_mask csrs Sie = 0x222
interrupts_mask csrs Sip = 0x2
interrupts_mask csrs Vsie = sip_bits csrs.hideleg
interrupts_mask csrs Vsip = bit_number 1 csrs.hideleg.software
interrupts_mask csrs Hideleg = 0x444
interrupts_mask csrs Hie = 0x444
interrupts_mask csrs Hip = 0x4
interrupts_mask csrs Hvip = 0x444

abbrev pub enable_mask : EnableCsr → ℕ
enable_mask Scounteren = 2
enable_mask Senvcfg = 1
enable_mask Hcounteren = 2
enable_mask Henvcfg = 1

abbrev pub hypervisor_mask : HypervisorCsr → Option ℕ
hypervisor_mask Hstatus = Some 0x7003C0
hypervisor_mask Hedeleg = Some 0xB1FF
hypervisor_mask Htimedelta = Some all_bits
hypervisor_mask Hgeie = Some 0
hypervisor_mask Hgeip = Some 0
hypervisor_mask Htval = Some all_bits
hypervisor_mask Htinst = Some all_bits
hypervisor_mask Hgatp = None

-- the writable bits of a register, but for the three roots; time is not written
abbrev pub mask_of : Csrs → Register → Option ℕ
mask_of csrs (Supervisor r) = supervisor_mask r
mask_of csrs (VirtualSupervisor r) = supervisor_mask r
mask_of csrs (Interrupt r) = Some (interrupts_mask csrs r)
mask_of csrs (Enable r) = Some (enable_mask r)
mask_of csrs (Hypervisor r) = hypervisor_mask r
mask_of csrs Time = None
mask_of csrs GuestTime = None

-- each register but the roots shows, after a write, what it showed before with its writable bits replaced
abbrev pub ReadsBack : Type 0
ReadsBack = (csrs : Csrs) (r : Register) (v : ℕ) → v < 2 ^ 64
    → IfSome (mask_of csrs r) (λ mask. shown (written csrs r v) r ≡ merged mask (shown csrs r) v)

-- what satp or vsatp shows after a write: all of the value at MODE 8 and 9, 0 at MODE 0, else what it showed
-- before
abbrev pub root_after : ℕ → ℕ → ℕ
root_after before v =
    if field 60 4 v == 8 || field 60 4 v == 9 then v else if field 60 4 v == 0 then 0 else before

-- what hgatp shows after a write: MODE, VMID and PPN but for bits 1:0 at MODE 8 and 9, else 0
abbrev pub guest_root_after : ℕ → ℕ
guest_root_after v =
    if field 60 4 v == 8 || field 60 4 v == 9 then bit_and v 0xF007FFFFFFFFFFFC else 0

abbrev pub SatpReadsBack : Type 0
SatpReadsBack = (csrs : Csrs) (v : ℕ) → v < 2 ^ 64
    → shown (written csrs (Supervisor Atp) v) (Supervisor Atp) ≡ root_after (shown csrs (Supervisor Atp)) v

abbrev pub VsatpReadsBack : Type 0
VsatpReadsBack = (csrs : Csrs) (v : ℕ) → v < 2 ^ 64
    → shown (written csrs (VirtualSupervisor Atp) v) (VirtualSupervisor Atp)
    ≡ root_after (shown csrs (VirtualSupervisor Atp)) v

abbrev pub HgatpReadsBack : Type 0
HgatpReadsBack = (csrs : Csrs) (v : ℕ)
    → v < 2 ^ 64 → shown (written csrs (Hypervisor Hgatp) v) (Hypervisor Hgatp) ≡ guest_root_after v

-- where a write reaches a register it is made, and a read by the same mode and number shows that register
abbrev pub ReadsWhatWasWritten : Type 0
ReadsWhatWasWritten = (csrs : Csrs) (mode : Mode) (number v : ℕ) (r : Register)
    → named_to_write csrs mode number ≡ Ok r
    → (write_csr csrs mode number v ≡ Ok (written csrs r v))
    × (read_csr (written csrs r v) mode number ≡ Ok (shown (written csrs r v) r))

-- the other registers that show some of what a write of a register changes
abbrev pub is_alias : Register → Register → Bool
is_alias (Interrupt Vsie) (Interrupt Hie) = true
is_alias (Interrupt Hie) (Interrupt Vsie) = true
is_alias (Interrupt Vsip) (Interrupt Hip) = true
is_alias (Interrupt Vsip) (Interrupt Hvip) = true
is_alias (Interrupt Hip) (Interrupt Vsip) = true
is_alias (Interrupt Hip) (Interrupt Hvip) = true
is_alias (Interrupt Hvip) (Interrupt Vsip) = true
is_alias (Interrupt Hvip) (Interrupt Hip) = true
is_alias (Interrupt Hideleg) (Interrupt Vsie) = true
is_alias (Interrupt Hideleg) (Interrupt Vsip) = true
is_alias (Hypervisor Htimedelta) GuestTime = true
is_alias r s = false

-- a write of a register leaves what the others show, but for its aliases
abbrev pub LeavesOthers : Type 0
LeavesOthers = (csrs : Csrs) (r s : Register) (v : ℕ)
    → r ≢ s → is_alias r s ≡ false → shown (written csrs r v) s ≡ shown csrs s

abbrev pub is_illegal : {A : Type 0} → Result A CsrEnd → Bool
is_illegal (Err Illegal) = true
is_illegal answer = false

-- with V = 1 an access is illegal exactly where it is in HS, so each other refusal there is a virtual
-- instruction (8.6.1)
abbrev pub IllegalAsInHs : Type 0
IllegalAsInHs = (csrs : Csrs) (number v : ℕ)
    → (is_illegal (read_csr csrs VS number) ≡ is_illegal (read_csr csrs HS number))
    × (is_illegal (read_csr csrs VU number) ≡ is_illegal (read_csr csrs HS number))
    × (is_illegal (write_csr csrs VS number v) ≡ is_illegal (write_csr csrs HS number v))
    × (is_illegal (write_csr csrs VU number v) ≡ is_illegal (write_csr csrs HS number v))
