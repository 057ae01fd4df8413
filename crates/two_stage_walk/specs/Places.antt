-- Where in memory, and in its page, an address and its place are.
use Rattle.std.specs.Prelude.{ℕ, ◌≡◌, ◌+◌, ◌%◌, ◌≤◌, ◌<◌, ⊤, length}
use Rattle.arch_defs.specs.declared.second_walks.SecondWalkEnd.{SecondWalkEnd}
use Rattle.arch_defs.specs.declared.second_walks.SecondWalkEnd.TheVariants.{Leaf, Device, GuestPageFault, AccessFault}
use Rattle.arch_defs.specs.declared.walks.Found.{Found}
use Rattle.arch_defs.specs.declared.walks.Found.TheVariants.{Passes, PageFaults, MissesEntry}
use Rattle.arch_defs.specs.declared.walks.LeafPte.{LeafPte}
use Rattle.arch_defs.specs.Memory.{Memory}
use Rattle.arch_defs.specs.Walk.{leaf_address, most_levels}
use Rattle.stage_walk.specs.Ends.{LeafFits}

-- a place lies in memory, at the same offset in its frame as the address
pub record IsPlaceOf (memory : Memory) (address place : ℕ) : Type 0 where
  pub from : memory.base ≤ place
  pub to : place < memory.base + length memory.bytes
  pub offset : place % 4096 ≡ address % 4096

-- the guest physical address, where the first stage gives one, is at the same offset in its page, and the
-- place of an entry is a multiple of its size
abbrev pub KeepsOffset : ℕ → Found → Type 0
KeepsOffset va (Passes address) = address % 4096 ≡ va % 4096
KeepsOffset va PageFaults = ⊤
KeepsOffset va (MissesEntry place) = place % 8 ≡ 0

-- a walk's leaf has fields of their widths, and memory has the frame of the address under it
pub record IsLeafIn (memory : Memory) (address : ℕ) (leaf : LeafPte) : Type 0 where
  pub fits : LeafFits most_levels leaf
  pub from : memory.base ≤ leaf_address leaf address
  pub to : leaf_address leaf address < memory.base + length memory.bytes

abbrev pub LeafIn : Memory → ℕ → SecondWalkEnd → Type 0
LeafIn memory address (Leaf leaf) = IsLeafIn memory address leaf
LeafIn memory address (Device leaf) = LeafFits most_levels leaf
LeafIn memory address GuestPageFault = ⊤
LeafIn memory address AccessFault = ⊤
