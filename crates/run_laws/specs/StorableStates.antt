-- What registers can hold (Privileged Architecture 20211203, 4.1 and 8.2, but where another standard is
-- named).
use Rattle.std.specs.Prelude.{ℕ, ◌≡◌, ◌%◌, ◌^◌, ◌<◌, ◌⊎◌, Option, Some, None, slice_index}
use Rattle.arch_defs.specs.declared.cached.Entry.{Entry}
use Rattle.arch_defs.specs.declared.registers.SupervisorCsrs.{SupervisorCsrs}
use Rattle.arch_defs.specs.declared.registers.Csrs.{Csrs}
use Rattle.arch_defs.specs.declared.registers.Virtual.{Virtual}
use Rattle.arch_defs.specs.CsrBits.{epc_bits, guest_root_of, hedeleg_bits, hgatp_bits, satp_bits, supervisor_root_of, tvec_bits}
use Rattle.guest_settings.specs.declared.guests.GuestSpec.{GuestSpec}
use Rattle.machine_defs.specs.Fills.{fill}
use Rattle.machine_defs.specs.Machine.{Machine, start}
use Rattle.machine_defs.specs.Runs.{left_after, run}

-- supervisor registers, each as a write of what it shows leaves it. The status is its named bits, and
-- scratch, cause and tval hold all values (own)
abbrev pub supervisor_form : SupervisorCsrs → SupervisorCsrs
supervisor_form registers = record registers {
  tvec = tvec_bits registers.tvec;
  epc = epc_bits registers.epc;
  atp = supervisor_root_of registers.atp (satp_bits registers.atp);
}

-- all registers, each as a write of what it shows leaves it. The others are their named bits, or hold all
-- values (own): htimedelta, htval, htinst and time
abbrev pub stored_form : Csrs → Csrs
stored_form csrs = record csrs {
  hs = supervisor_form csrs.hs;
  vs = supervisor_form csrs.vs;
  hedeleg = hedeleg_bits csrs.hedeleg;
  hgatp = guest_root_of (hgatp_bits csrs.hgatp);
}

-- an address that pc can have: of 64 bits, and a multiple of 4 (Unprivileged ISA 20191213, 2.2)
abbrev pub IsCodeAddress : ℕ → Type 0
IsCodeAddress address = (address % 4 ≡ 0) × (address < 2 ^ 64)

-- what is reserved, if anything is, is at a multiple of its width, which is 4 or 8 (Unprivileged ISA
-- 20191213, 8.2)
abbrev pub ReservesAligned : Option (ℕ × ℕ) → Type 0
ReservesAligned (Some (place, bytes)) = (place % bytes ≡ 0) × ((bytes ≡ 4) ⊎ (bytes ≡ 8))
ReservesAligned None = Unit {0}

-- a state whose registers hold what they can store; x0 is 0 (Unprivileged ISA 20191213, 2.1)
pub record IsStorable (virt : Virtual) : Type 0 where
  pub x0 : slice_index virt.regs.x 0 ≡ 0
  pub pc : IsCodeAddress virt.regs.pc
  pub csrs : stored_form virt.csrs ≡ virt.csrs
  pub reservation : ReservesAligned virt.reservation

-- a guest's machine has such a state at its start, after each fill, after each try, and after each run
abbrev pub StartIsStorable : Type 0
StartIsStorable = (guest : GuestSpec) → IsStorable (start guest).platform.virt

abbrev pub FillStaysStorable : Type 0
FillStaysStorable = (m : Machine) (e : Entry) → IsStorable m.platform.virt
    → IsStorable (fill m e).platform.virt

abbrev pub TryKeepsStorable : Type 0
TryKeepsStorable = (m : Machine) → IsStorable m.platform.virt → IsStorable (left_after m).platform.virt

abbrev pub RunKeepsStorable : Type 0
RunKeepsStorable = (m : Machine) (n : ℕ) → IsStorable m.platform.virt → IsStorable (run m n).platform.virt
