-- Cached translations that serve an access, and what the accesses of a state go through (own, within what
-- Privileged Architecture 20211203, 4.2.1, 8.3.2 and 8.5, permits).
use Rattle.std.specs.Prelude.{ℕ, ◌≡◌, ◌+◌, ◌*◌, ◌/◌, ◌<◌, ◌≤◌, ◌⊎◌, ◌^◌, List, [], ◌∷◌, Option, Some, None, ◌%◌, ◌++◌, find, length, map, if◌then◌else◌}
use Rattle.std.specs.List.{All, flat_map}
use Rattle.arrayvec.specs.ArrayVec.{ArrayVec, array_vec_len}
use Rattle.arch_defs.specs.declared.cached.Entry.{Entry}
use Rattle.arch_defs.specs.declared.first.FirstEntry.{FirstEntry}
use Rattle.arch_defs.specs.declared.modes.Access.{Access}
use Rattle.arch_defs.specs.declared.modes.Access.TheVariants.{Implicit}
use Rattle.arch_defs.specs.declared.registers.Virtual.{Virtual}
use Rattle.arch_defs.specs.declared.roots.SupervisorRoot.{SupervisorRoot}
use Rattle.arch_defs.specs.declared.roots.SupervisorRoot.TheVariants as root
use Rattle.arch_defs.specs.declared.walks.Privilege.{Privilege}
use Rattle.arch_defs.specs.declared.walks.Shape.{Shape}
use Rattle.arch_defs.specs.CachedEntries.{CanFill, entry_at, leaf_of, second_by}
use Rattle.arch_defs.specs.Devices.{device_frame}
use Rattle.arch_defs.specs.FirstEntries.{first_leaf, is_first_of}
use Rattle.arch_defs.specs.Memory.{Memory, Mmu, SecondStage, bare, block_size, mmu, ram_memory, reading_of}
use Rattle.arch_defs.specs.Permits.{permits_first, permits_second}
use Rattle.arch_defs.specs.Spaces.{front}
use Rattle.arch_defs.specs.Translation.{entry_words_through, found_by, privilege_of, supervisor_of}
use Rattle.arch_defs.specs.Walk.{path, walk}
use Rattle.arch_defs.specs.WalkedEntries.{folds}
use Rattle.machine_defs.specs.FirstLeaves.{known_of, tag_of}
use Rattle.machine_defs.specs.Machine.{Machine}
use Rattle.machine_defs.specs.Tries.{mmu_of}
use Rattle.phys_mem.specs.declared.accesses.Mem as mems
use Rattle.run_log.specs.declared.uses.Use.{Use}
use Rattle.run_log.specs.declared.uses.Use.TheVariants.{First, Second}
use Rattle.run_log.specs.Uses.{passed_uses, second_uses}
use Rattle.cached_uses.specs.declared.front_mmu.FrontMmu.{FrontMmu}

-- the translation of the first stage that serves an access, if there is one
abbrev pub first_permitted : Privilege → Access → Option FirstEntry → Option FirstEntry
first_permitted who access (Some e) = if permits_first who access (first_leaf e) then Some e else None
first_permitted who access None = None

abbrev pub first_served_under : Virtual → ℕ → Access → SupervisorRoot → Option FirstEntry
first_served_under virt va access root.Bare = None
first_served_under virt va access (root.Table mode asid ppn) =
    first_permitted (privilege_of virt.csrs virt.mode) access
    (find (is_first_of (tag_of virt) (root.Table mode asid ppn) (va / 4096)) virt.first)

abbrev pub first_served : Virtual → ℕ → Access → Option FirstEntry
first_served virt va access = first_served_under virt va access (supervisor_of virt.csrs virt.mode).atp

abbrev pub first_list : ℕ → Access → Option FirstEntry → List Use
first_list va access (Some e) = First e va access ∷ []
first_list va access None = []

-- that of the second stage
abbrev pub second_permitted : Virtual → Access → Option Entry → Option Entry
second_permitted virt kind (Some e) =
    if permits_second virt.csrs.hs.status.mxr kind (leaf_of e) then Some e else None
second_permitted virt kind None = None

abbrev pub second_served : Virtual → List Entry → ℕ → Access → Option Entry
second_served virt entries address kind =
    if folds virt then second_permitted virt kind (entry_at (address / 4096) entries) else None

abbrev pub second_list : ℕ → Access → Option Entry → List Use
second_list address kind (Some e) = Second e address kind ∷ []
second_list address kind None = []

-- what the accesses of a state go through, by the entries of the front space and memory
abbrev pub second_through : Virtual → List Entry → Memory → SecondStage
second_through virt entries memory =
    if folds virt then second_by entries virt.csrs.hs.status.mxr else bare memory

abbrev pub mmu_through : Virtual → List Entry → Memory → Mmu
mmu_through virt entries memory =
    mmu (known_of virt.first (tag_of virt) virt) (second_through virt entries memory) (reading_of memory)

-- a machine's own
abbrev pub MachinesGoThrough : Type 0
MachinesGoThrough = (m : Machine)
    → mmu_of m ≡ mmu_through m.platform.virt (front m.spaces) (ram_memory m.ram)

-- an entry's frame is in memory, or is that of the device page
pub record LeadsInto (memory : Memory) (e : Entry) : Type 0 where
  pub small : e.frame < 2 ^ 44
  pub frame : ((memory.base ≤ e.frame * 4096)
      × (e.frame * 4096 + 4096 ≤ memory.base + length memory.bytes))
      ⊎ (e.frame ≡ device_frame)

-- so are those that can be filled for a guest of a number of blocks
abbrev pub FilledLeadInto : Type 0
FilledLeadInto = (blocks ram : List ℕ) (e : Entry) → length blocks ≤ 2 ^ 30
    → length ram ≡ length blocks * block_size → CanFill blocks e → LeadsInto (ram_memory ram) e

-- what they go through, by the parts that the code keeps of it
abbrev pub mmu_of_front : {Y : Type 0} → mems.Ghosts Y → FrontMmu Y → Mmu
mmu_of_front M front = mmu_through front.virt.now front.entries.now (M.memory front.mem.now)

-- its memory is backed, and each entry leads into it
pub record IsFrontMmu {Y : Type 0} (M : mems.Ghosts Y) (front : FrontMmu Y) : Type 0 where
  pub backed : M.is_backed front.mem.now
  pub inside : All (LeadsInto (M.memory front.mem.now)) front.entries.now

-- these uses stand behind those that there were, at most as many as this
pub record AddsUses (most : ℕ) (old new : ArrayVec Use) (added : List Use) : Type 0 where
  pub items : new.items ≡ old.items ++ added
  pub few : array_vec_len new ≤ array_vec_len old + most

-- the uses by the walk of a table of the first stage, whose entries are read through the front space
abbrev pub walked_uses : Virtual → List Entry → Memory → Shape → ℕ → ℕ → Access → List Use
walked_uses virt entries memory shape ppn va access =
    let words = entry_words_through (second_by entries virt.csrs.hs.status.mxr) (reading_of memory) in
    flat_map (λ place. second_uses virt entries place Implicit)
    (map (λ met. met.place) (path words (ppn % 2 ^ 44) shape va access))
    ++ passed_uses virt entries access
    (found_by (privilege_of virt.csrs virt.mode) access va (walk words (ppn % 2 ^ 44) shape va access))
