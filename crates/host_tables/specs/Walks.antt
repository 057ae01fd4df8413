-- What the walk of a host table gives.
use Rattle.std.specs.Prelude.{ℕ, ◌≡◌, ◌+◌, ◌-◌, ◌*◌, ◌/◌, ◌≤◌, ◌^◌, ◌&&◌, Bool, true, List, length, None, slice_index, nat_le, nat_lt, if◌then◌else◌}
use Rattle.arch_defs.specs.declared.modes.Access.{Access}
use Rattle.arch_defs.specs.declared.roots.GuestRoot.TheVariants as root
use Rattle.arch_defs.specs.declared.second_walks.SecondWalkEnd.TheVariants.{GuestPageFault}
use Rattle.arch_defs.specs.declared.walks.WalkEnd.{WalkEnd}
use Rattle.arch_defs.specs.declared.walks.WalkEnd.TheVariants.{Leaf, PageFault}
use Rattle.arch_defs.specs.Frames.{LieIn}
use Rattle.arch_defs.specs.Layouts.{Layout, host_frames, named_by}
use Rattle.arch_defs.specs.Memory.{machine_memory, ram_base, block_size}
use Rattle.arch_defs.specs.Ram.{host_answer}
use Rattle.arch_defs.specs.Roots.{guest_shape, host_mode}
use Rattle.arch_defs.specs.SecondStage.{second_under, second_walk}
use Rattle.arch_defs.specs.Walk.{EntryReading, walk}
use Rattle.host_tables.specs.HostTable.{IsHostTable}
use Rattle.table_words.specs.Entries.{ReadsIn}

-- in RAM a leaf of 2 MiB with all permissions, which names the block, and no leaf elsewhere
abbrev pub host_walk : List ℕ → ℕ → WalkEnd
host_walk blocks address =
    if nat_le ram_base address && nat_lt address (ram_base + length blocks * block_size)
    then Leaf (slice_index blocks ((address - ram_base) / block_size) * 512) 1 true true true true
    else PageFault

-- the walk of such a table is that, for each address and each kind of access, whatever reads memory
abbrev pub WalksToRam : Layout → Type 0
WalksToRam part = (memory : List ℕ) (reading : EntryReading) (address : ℕ) (access : Access)
    → IsHostTable part memory → ReadsIn (host_frames part) memory reading
    → walk reading part.first_root (guest_shape host_mode) address access ≡ host_walk part.blocks address

-- memory of at most 512 MiB holds such a part, with its host table
pub record IsHeld (part : Layout) (memory : List ℕ) : Type 0 where
  pub size : length memory ≤ 2 ^ 29
  pub lies : LieIn (named_by part) (length memory)
  pub table : IsHostTable part memory

-- the second stage by that table has each guest physical address of RAM at its place, and no other
abbrev pub GivesRam : Layout → Type 0
GivesRam part = (memory : List ℕ) (mxr : Bool) (vmid address : ℕ) (access : Access) → IsHeld part memory
    → second_under (machine_memory memory) mxr (root.Table host_mode vmid part.first_root) address access
    ≡ host_answer part.blocks address

-- and where it has no place for one, its walk is a guest-page fault, and no access fault
abbrev pub OutsideIsGuestPageFault : Layout → Type 0
OutsideIsGuestPageFault part = (memory : List ℕ) (mxr : Bool) (address : ℕ) (access : Access)
    → IsHeld part memory → host_answer part.blocks address ≡ None
    → second_walk (machine_memory memory) mxr (guest_shape host_mode) part.first_root address access
    ≡ GuestPageFault
