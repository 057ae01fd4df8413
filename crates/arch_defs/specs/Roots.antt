-- What the values of satp, vsatp and hgatp say of the tables that they name (Privileged Architecture
-- 20211203, 4.1.11, 8.2.10 and 8.2.18).
use Rattle.std.specs.Prelude.{ℕ, Bool, true, false, ◌&&◌, ◌==◌, Option, Some, None, if◌then◌else◌}
use Rattle.arch_defs.specs.declared.roots.GuestMode.{GuestMode}
use Rattle.arch_defs.specs.declared.roots.GuestMode.TheVariants as guest_mode
use Rattle.arch_defs.specs.declared.roots.GuestRoot.{GuestRoot}
use Rattle.arch_defs.specs.declared.roots.GuestRoot.TheVariants as guest_root
use Rattle.arch_defs.specs.declared.roots.SupervisorMode.{SupervisorMode}
use Rattle.arch_defs.specs.declared.roots.SupervisorMode.TheVariants as supervisor_mode
use Rattle.arch_defs.specs.declared.roots.SupervisorRoot.{SupervisorRoot}
use Rattle.arch_defs.specs.declared.roots.SupervisorRoot.TheVariants as supervisor_root
use Rattle.arch_defs.specs.declared.walks.Shape.{Shape}
use Rattle.arch_defs.specs.declared.walks.Shape.TheVariants as shape

-- MODE of satp and vsatp (4.1.11), and of hgatp (8.2.10), as a number
abbrev pub supervisor_mode_number : SupervisorMode → ℕ
supervisor_mode_number supervisor_mode.Sv39 = 8
supervisor_mode_number supervisor_mode.Sv48 = 9

abbrev pub guest_mode_number : GuestMode → ℕ
guest_mode_number guest_mode.Sv39x4 = 8
guest_mode_number guest_mode.Sv48x4 = 9

-- the mode of a number; 0, which is Bare, and each that names no table here has none (own: Sv57, 10, is none)
abbrev pub supervisor_mode_of : ℕ → Option SupervisorMode
supervisor_mode_of number =
    if number == 8 then Some supervisor_mode.Sv39
    else if number == 9 then Some supervisor_mode.Sv48
    else None

abbrev pub guest_mode_of : ℕ → Option GuestMode
guest_mode_of number =
    if number == 8 then Some guest_mode.Sv39x4
    else if number == 9 then Some guest_mode.Sv48x4
    else None

-- the shape of a mode's tables (4.4, 4.5 and 8.5.1)
abbrev pub supervisor_shape : SupervisorMode → Shape
supervisor_shape supervisor_mode.Sv39 = shape.Sv39
supervisor_shape supervisor_mode.Sv48 = shape.Sv48

abbrev pub guest_shape : GuestMode → Shape
guest_shape guest_mode.Sv39x4 = shape.Sv39x4
guest_shape guest_mode.Sv48x4 = shape.Sv48x4

-- the modes of the tables that the host makes: of a guest's host table, and of a folded table, whatever the
-- mode of the guest's own table is (own)
abbrev pub host_mode : GuestMode
host_mode = guest_mode.Sv39x4

abbrev pub folded_mode : GuestMode
folded_mode = guest_mode.Sv48x4

-- two values of hgatp are the same: MODE, VMID and PPN
abbrev pub is_root : GuestRoot → GuestRoot → Bool
is_root guest_root.Bare guest_root.Bare = true
is_root guest_root.Bare (guest_root.Table mode vmid ppn) = false
is_root (guest_root.Table mode vmid ppn) guest_root.Bare = false
is_root (guest_root.Table mode vmid ppn) (guest_root.Table other other_vmid other_ppn) =
    guest_mode_number mode == guest_mode_number other && (vmid == other_vmid && ppn == other_ppn)

-- two values of satp, or of vsatp, are the same: MODE, ASID and PPN
abbrev pub is_atp : SupervisorRoot → SupervisorRoot → Bool
is_atp supervisor_root.Bare supervisor_root.Bare = true
is_atp supervisor_root.Bare (supervisor_root.Table mode asid ppn) = false
is_atp (supervisor_root.Table mode asid ppn) supervisor_root.Bare = false
is_atp (supervisor_root.Table mode asid ppn) (supervisor_root.Table other other_asid other_ppn) =
    supervisor_mode_number mode == supervisor_mode_number other && (asid == other_asid && ppn == other_ppn)

-- the VMID of a value of hgatp, and the ASID of a value of satp or vsatp; 0 under Bare
abbrev pub vmid_of : GuestRoot → ℕ
vmid_of guest_root.Bare = 0
vmid_of (guest_root.Table mode vmid ppn) = vmid

abbrev pub asid_of : SupervisorRoot → ℕ
asid_of supervisor_root.Bare = 0
asid_of (supervisor_root.Table mode asid ppn) = asid

-- whether hgatp names a table (8.2.10)
abbrev pub is_table : GuestRoot → Bool
is_table guest_root.Bare = false
is_table (guest_root.Table mode vmid ppn) = true

-- whether satp or vsatp names one (4.1.11)
abbrev pub names_table : SupervisorRoot → Bool
names_table supervisor_root.Bare = false
names_table (supervisor_root.Table mode asid ppn) = true
