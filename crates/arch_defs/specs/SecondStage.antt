-- The second stage as memory is: the walk of hgatp's table, and the trap of an access that it gives no place
-- (Privileged Architecture 20211203, 8.2.10, 8.5 and 8.6).
use Rattle.std.specs.Prelude.{ℕ, ◌+◌, ◌-◌, ◌*◌, ◌/◌, ◌^◌, Bool, true, false, not, ◌&&◌, length, Option, Some, None, Ok, Err, nat_le, if◌then◌else◌}
use Rattle.arch_defs.specs.declared.second_walks.SecondWalkEnd.{SecondWalkEnd}
use Rattle.arch_defs.specs.declared.second_walks.SecondWalkEnd.TheVariants.{GuestPageFault, AccessFault}
use Rattle.arch_defs.specs.declared.second_walks.SecondWalkEnd.TheVariants as guest
use Rattle.arch_defs.specs.declared.modes.Access.{Access}
use Rattle.arch_defs.specs.declared.modes.Access.TheVariants.{Fetch, Load, Store, ExecLoad, Implicit}
use Rattle.arch_defs.specs.declared.modes.Mode.{Mode}
use Rattle.arch_defs.specs.declared.modes.Trap.{Trap}
use Rattle.arch_defs.specs.declared.registers.Csrs.{Csrs}
use Rattle.arch_defs.specs.declared.roots.GuestRoot.{GuestRoot}
use Rattle.arch_defs.specs.declared.roots.GuestRoot.TheVariants as root
use Rattle.arch_defs.specs.declared.walks.Shape.{Shape}
use Rattle.arch_defs.specs.declared.walks.MissingPlace.{MissingPlace}
use Rattle.arch_defs.specs.declared.walks.WalkEnd.{WalkEnd}
use Rattle.arch_defs.specs.declared.walks.WalkEnd.TheVariants.{Leaf, PageFault, FetchEnd}
use Rattle.arch_defs.specs.Bits.{field}
use Rattle.arch_defs.specs.Devices.{is_on_device}
use Rattle.arch_defs.specs.Memory.{Memory, load, bare, SecondStage}
use Rattle.arch_defs.specs.Permits.{permits_second}
use Rattle.arch_defs.specs.Roots.{guest_shape}
use Rattle.arch_defs.specs.TableEntries.{leaf_with}
use Rattle.arch_defs.specs.Translation.{unread}
use Rattle.arch_defs.specs.Traps.{exception, faults_of, is_virtual, missing_place_fault}
use Rattle.arch_defs.specs.Walk.{EntryReading, walk, leaf_address}

-- memory has that many bytes from a place on
abbrev pub has_bytes : Memory → ℕ → ℕ → Bool
has_bytes memory place n =
    nat_le memory.base place && nat_le (place + n) (memory.base + length memory.bytes)

-- memory has the frame that a place is in
abbrev pub has_frame_of : Memory → ℕ → Bool
has_frame_of memory place = has_bytes memory (place / 4096 * 4096) 4096

-- the words of entries as memory is; a place outside memory has none
abbrev pub memory_words : Memory → EntryReading
memory_words memory place =
    if has_bytes memory place 8 then Ok (load memory.bytes (place - memory.base) 8) else Err (unread place)

-- what the walk's end is to an access. MXR is sstatus's (8.5.1); an entry, or the frame of the address under
-- a leaf that permits the access, is an access fault where it is outside memory (4.3.2), but for the frame of
-- the device page (own)
abbrev pub second_end : Memory → Bool → ℕ → Access → WalkEnd → SecondWalkEnd
second_end memory mxr address kind (Leaf frame level r w x u) =
    let leaf = leaf_with frame level r w x u in
    if not (permits_second mxr kind leaf) then GuestPageFault
    else if has_frame_of memory (leaf_address leaf address) then guest.Leaf leaf
    else if is_on_device (leaf_address leaf address) then guest.Device leaf
    else AccessFault
second_end memory mxr address kind PageFault = GuestPageFault
second_end memory mxr address kind (FetchEnd place trap) = AccessFault

-- the root's frame by hgatp's PPN: 16 KiB aligned, so bits 1:0 are zero (8.2.10)
abbrev pub guest_root_frame : ℕ → ℕ
guest_root_frame ppn = field 2 42 ppn * 2 ^ 2

-- the walk of the table of a shape at hgatp's PPN for an access of a kind at a guest physical address (8.5.1)
unfoldable pub second_walk : Memory → Bool → Shape → ℕ → ℕ → Access → SecondWalkEnd
second_walk memory mxr shape ppn address kind =
    second_end memory mxr address kind
    (walk (memory_words memory) (guest_root_frame ppn) shape address kind)

-- the place under a leaf; the device page has no place in memory
abbrev pub place_under : ℕ → SecondWalkEnd → Option ℕ
place_under address (guest.Leaf leaf) = Some (leaf_address leaf address)
place_under address (guest.Device leaf) = None
place_under address GuestPageFault = None
place_under address AccessFault = None

-- the second stage by that walk
abbrev pub walked : Memory → Bool → Shape → ℕ → SecondStage
walked memory mxr shape ppn address kind = place_under address (second_walk memory mxr shape ppn address kind)

-- whether that walk ends on the device page
abbrev pub is_device_end : SecondWalkEnd → Bool
is_device_end (guest.Leaf leaf) = false
is_device_end (guest.Device leaf) = true
is_device_end GuestPageFault = false
is_device_end AccessFault = false

-- the table of a mode's second stage: hgatp's with V = 1 (8.2.10), and none with V = 0
abbrev pub second_root_of : Csrs → Mode → GuestRoot
second_root_of csrs mode = if is_virtual mode then csrs.hgatp else root.Bare

-- the second stage by a table, and that of a mode's accesses as the registers and memory are
abbrev pub second_under : Memory → Bool → GuestRoot → SecondStage
second_under memory mxr root.Bare = bare memory
second_under memory mxr (root.Table mode vmid ppn) = walked memory mxr (guest_shape mode) ppn

abbrev pub second_by_walk : Csrs → Mode → Memory → SecondStage
second_by_walk csrs mode memory = second_under memory csrs.hs.status.mxr (second_root_of csrs mode)

-- which accesses are on the device page
abbrev pub OnDevice : Type 0
OnDevice = ℕ → Access → Bool

-- by a table: those that its walk has there; under Bare, those whose address is there. And by a mode's, as
-- the registers and memory are
abbrev pub device_under : Memory → Bool → GuestRoot → OnDevice
device_under memory mxr root.Bare address kind = is_on_device address
device_under memory mxr (root.Table mode vmid ppn) address kind =
    is_device_end (second_walk memory mxr (guest_shape mode) ppn address kind)

abbrev pub device_by_walk : Csrs → Mode → Memory → OnDevice
device_by_walk csrs mode memory = device_under memory csrs.hs.status.mxr (second_root_of csrs mode)

-- whether it is the implicit read of a first-stage entry
abbrev pub is_implicit : Access → Bool
is_implicit Fetch = false
is_implicit Load = false
is_implicit Store = false
is_implicit ExecLoad = false
is_implicit Implicit = true

-- the trap of a guest-page fault: with the guest physical address shifted right by 2, low bits too (8.2.8),
-- and with whether it is that of an implicit read (8.6.3)
abbrev pub guest_page_trap : MissingPlace → Trap
guest_page_trap missing = record (exception missing.mode (faults_of missing.access).guest_page missing.va) {
  tval2 = missing.address / 4;
  implicit = is_implicit missing.kind;
}

-- the trap of an access that has no place, by the end of the walk of its address; on the device page it is
-- that of a machine without one. Under a leaf it has a place, so the line for it is for completeness
abbrev pub missing_place_by : MissingPlace → SecondWalkEnd → Trap
missing_place_by missing (guest.Leaf leaf) = missing_place_fault missing
missing_place_by missing (guest.Device leaf) = missing_place_fault missing
missing_place_by missing GuestPageFault = guest_page_trap missing
missing_place_by missing AccessFault = missing_place_fault missing

-- the trap by a table, and by that of the access's mode as the registers and memory are; Bare gives access
-- faults alone
abbrev pub missing_place_under : Memory → Bool → MissingPlace → GuestRoot → Trap
missing_place_under memory mxr missing root.Bare = missing_place_fault missing
missing_place_under memory mxr missing (root.Table mode vmid ppn) =
    missing_place_by missing (second_walk memory mxr (guest_shape mode) ppn missing.address missing.kind)

abbrev pub missing_place_trap : Csrs → Memory → MissingPlace → Trap
missing_place_trap csrs memory missing =
    missing_place_under memory csrs.hs.status.mxr missing (second_root_of csrs missing.mode)
