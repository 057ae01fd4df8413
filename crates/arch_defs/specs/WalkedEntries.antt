-- What the walk of hgatp's table gives to be cached (own, within what Privileged Architecture 20211203, 8.3.2
-- and 8.5, permits).
use Rattle.std.specs.Prelude.{ℕ, ◌/◌, ◌&&◌, Bool, List, Option, Some, None, if◌then◌else◌}
use Rattle.arch_defs.specs.declared.cached.Entry.{Entry}
use Rattle.arch_defs.specs.declared.second_walks.SecondWalkEnd.{SecondWalkEnd}
use Rattle.arch_defs.specs.declared.second_walks.SecondWalkEnd.TheVariants.{Leaf, Device, GuestPageFault, AccessFault}
use Rattle.arch_defs.specs.declared.modes.Access.{Access}
use Rattle.arch_defs.specs.declared.registers.Csrs.{Csrs}
use Rattle.arch_defs.specs.declared.roots.GuestRoot.{GuestRoot}
use Rattle.arch_defs.specs.declared.roots.GuestRoot.TheVariants as root
use Rattle.arch_defs.specs.declared.registers.Virtual.{Virtual}
use Rattle.arch_defs.specs.declared.walks.LeafPte.{LeafPte}
use Rattle.arch_defs.specs.Memory.{ram_memory}
use Rattle.arch_defs.specs.Roots.{guest_shape, is_table}
use Rattle.arch_defs.specs.SecondStage.{second_walk}
use Rattle.arch_defs.specs.Traps.{is_virtual}
use Rattle.arch_defs.specs.Walk.{leaf_address}

-- whether a state's accesses go by cached translations: with V = 1, while hgatp names a table
abbrev pub folds : Virtual → Bool
folds virt = is_virtual virt.mode && is_table virt.csrs.hgatp

-- the entry of an address's page under a leaf: it is for this one page, whatever the leaf's level
abbrev pub entry_under : LeafPte → ℕ → Entry
entry_under leaf address = record {
  page = address / 4096;
  frame = leaf_address leaf address / 4096;
  r = leaf.r;
  w = leaf.w;
  x = leaf.x;
  level = leaf.level;
}

-- what is filled for an address by the end of a walk: a leaf permits the access, and its frame is in RAM, or
-- is that of the device page of a machine that has one
abbrev pub entry_by_end : Bool → ℕ → SecondWalkEnd → Option Entry
entry_by_end device address (Leaf leaf) = Some (entry_under leaf address)
entry_by_end device address (Device leaf) = if device then Some (entry_under leaf address) else None
entry_by_end device address GuestPageFault = None
entry_by_end device address AccessFault = None

-- by the walk of a table in RAM. MXR is sstatus's
abbrev pub entry_by_table : Bool → Bool → List ℕ → ℕ → Access → GuestRoot → Option Entry
entry_by_table device mxr ram address kind root.Bare = None
entry_by_table device mxr ram address kind (root.Table mode vmid ppn) =
    entry_by_end device address (second_walk (ram_memory ram) mxr (guest_shape mode) ppn address kind)

-- what is filled for an access of a kind at a guest physical address by a machine that has the device page or
-- not, as the registers and RAM are
unfoldable pub entry_by_walk : Bool → Csrs → List ℕ → ℕ → Access → Option Entry
entry_by_walk device csrs ram address kind =
    entry_by_table device csrs.hs.status.mxr ram address kind csrs.hgatp
