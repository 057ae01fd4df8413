-- How the hart stands for a guest: with V = 0 its VS and VU for the guest's HS and U, with V = 1 for the
-- guest's VS and VU.
use Rattle.std.specs.Prelude.{ℕ, ◌+◌, ◌*◌, ◌/◌, ◌%◌, Bool, true, false, not, ◌&&◌, ◌==◌, nat_lt, if◌then◌else◌, List, Option, Some, None, option_map}
use Rattle.std.specs.List.{position}
use Rattle.arch_defs.specs.declared.hart_states.HartState.{HartState}
use Rattle.arch_defs.specs.declared.levels.Level.{Level}
use Rattle.arch_defs.specs.declared.levels.Level.TheVariants as level
use Rattle.arch_defs.specs.declared.modes.Mode.{Mode}
use Rattle.arch_defs.specs.declared.registers.SupervisorCsrs.{SupervisorCsrs}
use Rattle.arch_defs.specs.declared.registers.Csrs.{Csrs}
use Rattle.arch_defs.specs.declared.roots.GuestRoot.{GuestRoot}
use Rattle.arch_defs.specs.declared.roots.GuestMode.{GuestMode}
use Rattle.arch_defs.specs.declared.roots.GuestRoot.TheVariants.{Table}
use Rattle.arch_defs.specs.declared.registers.HypervisorStatus.{HypervisorStatus}
use Rattle.arch_defs.specs.declared.registers.Interrupts.{Interrupts}
use Rattle.arch_defs.specs.declared.registers.Virtual.{Virtual}
use Rattle.arch_defs.specs.CsrBits.{hedeleg_bits}
use Rattle.arch_defs.specs.Layouts.{Layout}
use Rattle.arch_defs.specs.Memory.{block_size, ram_base}
use Rattle.arch_defs.specs.Registers.{clear_hypervisor_status, clear_supervisor_status, csrs_at_reset, supervisor_at_reset}
use Rattle.arch_defs.specs.Roots.{folded_mode, host_mode}
use Rattle.arch_defs.specs.Traps.{is_supervisor, is_virtual, mode_of}
use Rattle.machine_defs.specs.FirstLeaves.{tag_of}
use Rattle.instruction_laws.specs.HostPlaces.{memory_place}
use Rattle.instruction_laws.specs.Renaming.{renamed}

-- the hart's mode for a mode of the guest
abbrev pub hosted_mode : Mode → Mode
hosted_mode mode = mode_of true (is_supervisor mode)

-- the level for which the hart's VS stands, by the guest's V
abbrev pub hosted_level : Bool → Level
hosted_level false = level.HS
hosted_level true = level.VS

-- the guest's mode for a mode of the hart, by the guest's V, which no step of the hart changes
abbrev pub saved_mode : Bool → Mode → Mode
saved_mode virtual mode = mode_of virtual (is_supervisor mode)

-- the hart's hstatus, by the guest's: with V = 0 the host makes a WFI and an SRET of the guest's HS. With
-- V = 1 it makes a WFI, and what the guest keeps from its VS traps on the hart too
abbrev pub hosted_status : Bool → HypervisorStatus → HypervisorStatus
hosted_status false status = record clear_hypervisor_status { vtw = true; vtsr = true }
hosted_status true status =
    record clear_hypervisor_status { vtvm = status.vtvm; vtw = true; vtsr = status.vtsr }

abbrev pub all_interrupts : Interrupts
all_interrupts = record { software = true; timer = true; external = true }

-- the hart's hedeleg: each exception that a guest with V = 0 takes, and those that a guest with V = 1
-- delegates
abbrev pub own_exceptions : ℕ
own_exceptions = 0xB1FF

abbrev pub hosted_exceptions : Bool → ℕ → ℕ
hosted_exceptions false hedeleg = own_exceptions
hosted_exceptions true hedeleg = hedeleg_bits hedeleg

-- the hart's own registers of HS: of the guest's MXR alone, which counts with V = 1
abbrev pub supervisor_with : Bool → SupervisorCsrs
supervisor_with mxr = record supervisor_at_reset { status = record clear_supervisor_status { mxr = mxr } }

-- the hart's registers under this root of the second stage, by the guest's V: VS's are those of the guest's
-- HS, whose exceptions and interrupts are all delegated to VS, or those of its VS, delegated as the guest
-- delegates. The host makes a read of time, and what the hypervisor registers decide
abbrev pub hosted_csrs : GuestRoot → Bool → Csrs → Csrs
hosted_csrs root false csrs = record csrs_at_reset {
  vs = csrs.hs;
  hie = csrs.sie;
  hvip = csrs.sip;
  scounteren_tm = csrs.scounteren_tm;
  senvcfg_fiom = csrs.senvcfg_fiom;
  hstatus = hosted_status false csrs.hstatus;
  hedeleg = hosted_exceptions false csrs.hedeleg;
  hideleg = all_interrupts;
  hgatp = root;
}
hosted_csrs root true csrs = record csrs_at_reset {
  hs = supervisor_with csrs.hs.status.mxr;
  vs = csrs.vs;
  hie = csrs.hie;
  hvip = csrs.hvip;
  scounteren_tm = csrs.scounteren_tm;
  senvcfg_fiom = csrs.senvcfg_fiom;
  hstatus = hosted_status true csrs.hstatus;
  hedeleg = hosted_exceptions true csrs.hedeleg;
  hideleg = csrs.hideleg;
  hgatp = root;
}

-- the hart's state for a guest under this root, the reservation at the guest's own address
abbrev pub hart_state_of : GuestRoot → Virtual → Virtual
hart_state_of root virt = record {
  regs = virt.regs;
  csrs = hosted_csrs root (is_virtual virt.mode) virt.csrs;
  mode = hosted_mode virt.mode;
  reservation = virt.reservation;
  first = virt.first;
}

-- whether a frame is the first of the root of one of a part's spaces
abbrev pub is_space_root : Layout → ℕ → Bool
is_space_root part frame =
    nat_lt part.first_root frame
    && (nat_lt frame (part.first_root + 4 * (1 + part.spaces)) && frame % 4 == 0)

-- the mode of the table whose root begins at a frame: that of folded tables at a space's root, else that of
-- the host table
abbrev pub mode_at : Layout → ℕ → GuestMode
mode_at part frame = if is_space_root part frame then folded_mode else host_mode

-- the second stage by that table, with VMID 0 (Privileged Architecture 20211203, 8.2.10)
abbrev pub root_at : Layout → ℕ → GuestRoot
root_at part frame = Table (mode_at part frame) 0 frame

-- that of the host table of the guest that has this part, and that of a space whose root begins at a frame
abbrev pub host_root : Layout → GuestRoot
host_root part = Table host_mode 0 part.first_root

abbrev pub space_root : ℕ → GuestRoot
space_root frame = Table folded_mode 0 frame

-- its state for that guest under a root: the reservation is at the place in machine memory
abbrev pub hart_state_in : Layout → GuestRoot → Virtual → Virtual
hart_state_in part root virt = renamed (memory_place part.blocks) (hart_state_of root virt)

-- all that it has for that guest: beside its state, for whom the guest's accesses are
abbrev pub loaded_in : Layout → GuestRoot → Virtual → HartState
loaded_in part root virt = record { virt = hart_state_in part root virt; tag = tag_of virt }

-- what the guest has after the hart has run, by the guest's V; what the hart does not have for it stays
abbrev pub saved_csrs : Bool → Csrs → Csrs → Csrs
saved_csrs false hart before = record before {
  hs = hart.vs;
  sie = hart.hie;
  sip = hart.hvip;
  scounteren_tm = hart.scounteren_tm;
  senvcfg_fiom = hart.senvcfg_fiom;
}
saved_csrs true hart before = record before {
  vs = hart.vs;
  hie = hart.hie;
  hvip = hart.hvip;
  scounteren_tm = hart.scounteren_tm;
  senvcfg_fiom = hart.senvcfg_fiom;
}

abbrev pub guest_state_of : Virtual → Virtual → Virtual
guest_state_of hart before = record {
  regs = hart.regs;
  csrs = saved_csrs (is_virtual before.mode) hart.csrs before.csrs;
  mode = saved_mode (is_virtual before.mode) hart.mode;
  reservation = hart.reservation;
  first = hart.first;
}

-- the guest physical address that these blocks of machine memory have at a place, if one of them has it
abbrev pub own_address : List ℕ → ℕ → Option ℕ
own_address blocks place = option_map (λ i. ram_base + i * block_size + place % block_size)
    (position (λ block. block == place / block_size) blocks)

-- the guest's reservation, at its own address, by the hart's, which is at a place in machine memory; a place
-- that the part does not have gives none
abbrev pub own_reservation : Layout → ℕ → ℕ → Option (ℕ × ℕ)
own_reservation part place bytes = option_map (λ address. (address, bytes)) (own_address part.blocks place)

abbrev pub saved_reservation : Layout → Option (ℕ × ℕ) → Option (ℕ × ℕ)
saved_reservation part (Some (place, bytes)) = own_reservation part place bytes
saved_reservation part None = None

-- what the guest that has this part has after the hart has run
abbrev pub saved_in : Layout → Virtual → Virtual → Virtual
saved_in part hart before =
    record (guest_state_of hart before) { reservation = saved_reservation part hart.reservation }

-- and after the hart has taken a trap into VS that stands for one into the guest's HS with V = 0 (Privileged
-- Architecture 20211203, 8.2.1, 8.2.8, 8.2.9): GVA, SPV, htval and htinst, which the hart does not have for
-- the guest
abbrev pub after_hs_trap : Virtual → Virtual
after_hs_trap virt =
    let hstatus = record virt.csrs.hstatus { gva = false; spv = false } in
    record virt { csrs = record virt.csrs { hstatus = hstatus; htval = 0; htinst = 0 } }

-- what the guest has after the hart has run, by whether its last step was a trap into VS. With V = 1 that is
-- one into the guest's VS, which changes nothing that the hart does not have for it
abbrev pub guest_state_after : Bool → Virtual → Virtual → Virtual
guest_state_after trapped hart before =
    if trapped && not (is_virtual before.mode) then after_hs_trap (guest_state_of hart before)
    else guest_state_of hart before
