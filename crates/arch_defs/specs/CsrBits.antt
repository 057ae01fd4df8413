-- The control and status registers as numbers: what a read shows, and how a write takes a number apart
-- (Privileged Architecture 20211203). Bits that are not named read zero and ignore writes.
use Rattle.std.specs.Prelude.{ℕ, ◌+◌, ◌*◌, ◌%◌, ◌^◌, ◌&&◌, ◌==◌, Option, Some, None, if◌then◌else◌}
use Rattle.arch_defs.specs.declared.registers.SupervisorStatus.{SupervisorStatus}
use Rattle.arch_defs.specs.declared.registers.HypervisorStatus.{HypervisorStatus}
use Rattle.arch_defs.specs.declared.registers.Interrupts.{Interrupts}
use Rattle.arch_defs.specs.declared.roots.SupervisorRoot.{SupervisorRoot}
use Rattle.arch_defs.specs.declared.roots.SupervisorRoot.TheVariants as supervisor_root
use Rattle.arch_defs.specs.declared.roots.SupervisorMode.{SupervisorMode}
use Rattle.arch_defs.specs.declared.roots.GuestRoot.{GuestRoot}
use Rattle.arch_defs.specs.declared.roots.GuestRoot.TheVariants as guest_root
use Rattle.arch_defs.specs.declared.roots.GuestMode.{GuestMode}
use Rattle.arch_defs.specs.Bits.{bit, bit_number, field}
use Rattle.arch_defs.specs.Roots.{guest_mode_number, guest_mode_of, supervisor_mode_number, supervisor_mode_of}

-- UXL or VSXL, bits 33:32: 2, which is a width of 64 bits (4.1.1.1, 8.2.1)
abbrev pub width_64 : ℕ
width_64 = 2 * 2 ^ 32

-- sstatus and vsstatus (4.1.1, 8.2.11): SIE 1, SPIE 5, SPP 8, SUM 18, MXR 19; UXL reads 2
unfoldable pub sstatus_bits : SupervisorStatus → ℕ
sstatus_bits s =
    bit_number 1 s.sie + bit_number 5 s.spie + bit_number 8 s.spp + bit_number 18 s.sum + bit_number 19 s.mxr
    + width_64

unfoldable pub sstatus_of : ℕ → SupervisorStatus
sstatus_of v = record { sie = bit 1 v; spie = bit 5 v; spp = bit 8 v; sum = bit 18 v; mxr = bit 19 v }

-- hstatus (8.2.1): GVA 6, SPV 7, SPVP 8, HU 9, VTVM 20, VTW 21, VTSR 22; VSXL reads 2
unfoldable pub hstatus_bits : HypervisorStatus → ℕ
hstatus_bits s =
    bit_number 6 s.gva + bit_number 7 s.spv + bit_number 8 s.spvp + bit_number 9 s.hu + bit_number 20 s.vtvm
    + bit_number 21 s.vtw + bit_number 22 s.vtsr + width_64

unfoldable pub hstatus_of : ℕ → HypervisorStatus
hstatus_of v = record {
  gva = bit 6 v;
  spv = bit 7 v;
  spvp = bit 8 v;
  hu = bit 9 v;
  vtvm = bit 20 v;
  vtw = bit 21 v;
  vtsr = bit 22 v;
}

-- the interrupts of a supervisor level, in sie, sip, vsie and vsip (4.1.3, 8.2.12): software 1, timer 5,
-- external 9
unfoldable pub sip_bits : Interrupts → ℕ
sip_bits s = bit_number 1 s.software + bit_number 5 s.timer + bit_number 9 s.external

unfoldable pub supervisor_interrupts : ℕ → Interrupts
supervisor_interrupts v = record { software = bit 1 v; timer = bit 5 v; external = bit 9 v }

-- the interrupts of VS, in hideleg, hie, hip and hvip (8.2.2, 8.2.3): each one bit higher
unfoldable pub hip_bits : Interrupts → ℕ
hip_bits s = bit_number 2 s.software + bit_number 6 s.timer + bit_number 10 s.external

unfoldable pub virtual_interrupts : ℕ → Interrupts
virtual_interrupts v = record { software = bit 2 v; timer = bit 6 v; external = bit 10 v }

-- those that are delegated; the others read zero in vsie and vsip (8.2.12)
unfoldable pub delegated : Interrupts → Interrupts → Interrupts
delegated hideleg s = record {
  software = hideleg.software && s.software;
  timer = hideleg.timer && s.timer;
  external = hideleg.external && s.external;
}

-- those that are delegated become others, and the rest stay (8.2.12)
unfoldable pub delegated_become : Interrupts → Interrupts → Interrupts → Interrupts
delegated_become hideleg before after = record {
  software = if hideleg.software then after.software else before.software;
  timer = if hideleg.timer then after.timer else before.timer;
  external = if hideleg.external then after.external else before.external;
}

-- stvec and vstvec (4.1.2, 8.2.13): all but bit 1, so MODE is direct or vectored (own)
unfoldable pub tvec_bits : ℕ → ℕ
tvec_bits v = field 2 62 v * 2 ^ 2 + field 0 1 v

-- sepc and vsepc (4.1.7, 8.2.15): all but bits 1:0, as IALIGN is 32
unfoldable pub epc_bits : ℕ → ℕ
epc_bits v = field 2 62 v * 2 ^ 2

-- hedeleg (8.2.2, table 8.2): codes 0 to 8, 12, 13 and 15, mask B1FF
unfoldable pub hedeleg_bits : ℕ → ℕ
hedeleg_bits v = field 0 9 v + field 12 2 v * 2 ^ 12 + field 15 1 v * 2 ^ 15

-- satp and vsatp (4.1.11, 8.2.18): MODE 63:60, ASID 59:44, PPN 43:0
unfoldable pub satp_bits : SupervisorRoot → ℕ
satp_bits supervisor_root.Bare = 0
satp_bits (supervisor_root.Table mode asid ppn) =
    supervisor_mode_number mode * 2 ^ 60 + asid % 2 ^ 16 * 2 ^ 44 + ppn % 2 ^ 44

-- after a write of a number whose MODE names a table, or none: Bare is stored as 0 (own); a write of another
-- MODE has no effect
abbrev pub supervisor_root_in : SupervisorRoot → ℕ → Option SupervisorMode → SupervisorRoot
supervisor_root_in kept v (Some mode) = supervisor_root.Table mode (field 44 16 v) (field 0 44 v)
supervisor_root_in kept v None = if field 60 4 v == 0 then supervisor_root.Bare else kept

unfoldable pub supervisor_root_of : SupervisorRoot → ℕ → SupervisorRoot
supervisor_root_of kept v = supervisor_root_in kept v (supervisor_mode_of (field 60 4 v))

-- hgatp (8.2.10): MODE 63:60, VMID 50:44, of 7 bits (own), PPN 43:0 of a root that is 16 KiB aligned, so its
-- bits 1:0 are zero
unfoldable pub hgatp_bits : GuestRoot → ℕ
hgatp_bits guest_root.Bare = 0
hgatp_bits (guest_root.Table mode vmid ppn) =
    guest_mode_number mode * 2 ^ 60 + vmid % 2 ^ 7 * 2 ^ 44 + field 2 42 ppn * 2 ^ 2

-- after a write of a number whose MODE names a table, or none: 0, and another MODE (own), is Bare, stored as
-- 0 (own)
abbrev pub guest_root_in : ℕ → Option GuestMode → GuestRoot
guest_root_in v (Some mode) = guest_root.Table mode (field 44 7 v) (field 2 42 v * 2 ^ 2)
guest_root_in v None = guest_root.Bare

unfoldable pub guest_root_of : ℕ → GuestRoot
guest_root_of v = guest_root_in v (guest_mode_of (field 60 4 v))
