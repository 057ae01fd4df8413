-- The second stage by a host table.
use Rattle.std.specs.Prelude.{◌&&◌, nat_le, nat_lt}
use Rattle.std.proofs.Common.{cond, ◌≡◌, ℕ, ◌+◌, ◌-◌, ◌*◌, ◌/◌, ◌%◌, ◌<◌, ◌≤◌, ◌^◌, Bool, true, false, ◌⊎◌, inl, inr, List, Some, None, length, slice_index, refl, ap, arith}
use Rattle.std.proofs.lemmas.Bool.{cases_lt}
use Rattle.std.proofs.lemmas.List.{get_or_past}
use Rattle.arch_defs.specs.declared.modes.Access.{Access}
use Rattle.arch_defs.specs.declared.modes.Access.TheVariants.{Fetch, Load, Store, ExecLoad, Implicit}
use Rattle.arch_defs.specs.declared.walks.LeafPte.{LeafPte}
use Rattle.arch_defs.specs.declared.second_walks.SecondWalkEnd.TheVariants.{GuestPageFault}
use Rattle.arch_defs.specs.declared.walks.WalkEnd.TheVariants.{PageFault}
use Rattle.arch_defs.specs.Frames.{Apart, LieIn, Only, Same, Within, in_blocks, within}
use Rattle.arch_defs.specs.Layouts.{Layout, NamesEachOnce, host_frames, in_tables, named_by, root_frames, table_frames}
use Rattle.arch_defs.specs.Memory.{block_size, machine_memory, ram_base}
use Rattle.arch_defs.specs.Permits.{permits_second}
use Rattle.arch_defs.specs.Ram.{SlicesLieIn, host_place}
use Rattle.arch_defs.specs.SecondStage.{memory_words, place_under, second_end, second_walk}
use Rattle.arch_defs.specs.TableEntries.{end_at_leaf}
use Rattle.arch_defs.proofs.FrameSets.{apart_sym, joined_within, kept, left_within, right_within, same_fewer, within_apart}
use Rattle.arch_defs.proofs.RamBlocks.{blocks_lie_in}
use Rattle.arch_defs.proofs.Rooms.{first_lies}
use Rattle.host_tables.specs.HostTable.{IsHostTable, block_leaf_word, root_word}
use Rattle.host_tables.specs.Walks.{IsHeld, GivesRam, OutsideIsGuestPageFault}
use Rattle.table_words.specs.Entries.{ReadsIn}
use Rattle.table_words.proofs.Readings.{has, memory_reads, root_frame}
use Rattle.host_tables.proofs.Entries.{entries_stay, root_in, root_room, table_in, table_room}
use Rattle.host_tables.proofs.Walking.{block_below, walks_to_ram}

-- the host table's frames are of the part's tables
pub host_in_tables : (part : Layout) → Within (host_frames part) (in_tables part)
host_in_tables part =
    joined_within (within part.first_root 4) (within part.first_table 1) (in_tables part)
    (λ frame is. left_within (root_frames part) (table_frames part) frame (root_in part frame is))
    (λ frame is. right_within (root_frames part) (table_frames part) frame (table_in part frame is))

pub host_in_part : (part : Layout) → Within (host_frames part) (named_by part)
host_in_part part frame is = right_within (in_blocks part.blocks) (in_tables part) frame (host_in_tables part frame is)

-- its entries are read as memory has them
none_before : (n : ℕ) → 0 + n ≡ n
none_before n = omega arith

reads : (part : Layout) (memory : List ℕ) → LieIn (named_by part) (length memory) → ReadsIn (host_frames part) memory (memory_words (machine_memory memory))
reads part memory lie = memory_reads (host_frames part) memory (λ frame is. lie frame (host_in_part part frame is))

-- each access is permitted under a leaf with all permissions
abbrev full : ℕ → LeafPte
full frame = record { frame = frame; level = 1; r = true; w = true; x = true; u = true }

permitted : (mxr : Bool) (access : Access) (frame : ℕ) → permits_second mxr access (full frame) ≡ true
unfolding permits_second
permitted mxr Fetch frame = refl
permitted mxr Load frame = refl
permitted mxr Store frame = refl
permitted mxr ExecLoad frame = refl
permitted mxr Implicit frame = refl

-- the place under the leaf of a block
leaf_place : (block address : ℕ) → 2147483648 ≤ address
    → 4096 * (block * 512) + address % 2 ^ (12 + 9 * 1) ≡ block * 2097152 + (address - 2147483648) % 2097152
leaf_place block address from = omega (arith, from)

-- a frame's bytes lie in memory with its block
in_memory : (block r size : ℕ) → block * 2097152 + 2097152 ≤ size → r < 2097152 → (block * 2097152 + r) / 4096 * 4096 + 4096 ≤ size
in_memory block r size lies small = omega (arith, lies, small)

-- the walk's end in RAM and outside it
in_ram_end : (memory : List ℕ) (mxr : Bool) (blocks : List ℕ) (address : ℕ) (access : Access) → SlicesLieIn block_size blocks (length memory)
    → 2147483648 ≤ address → address < 2147483648 + length blocks * 2097152
    → place_under address (second_end (machine_memory memory) mxr address access (end_at_leaf (full (slice_index blocks ((address - ram_base) / block_size) * 512))))
    ≡ Some (host_place blocks (address - ram_base))
in_ram_end memory mxr blocks address access lie from to =
    let block = slice_index blocks ((address - ram_base) / block_size) in
    let i = (address - ram_base) / block_size in
    let is = leaf_place block address from in
    let inside : i < length blocks = block_below (address - 2147483648) (length blocks) (omega (arith, from, to)) in
    let fits = in_memory block ((address - 2147483648) % 2097152) (length memory) (lie i inside) (omega arith) in
    rw (permitted mxr access (block * 512), is, has memory _ 4096 fits) (ap (λ n. Some n) is)

-- the root lies below 2^44
root_small : (root size : ℕ) → (root + 4) * 4096 ≤ size → size ≤ 2 ^ 29 → root < 2 ^ 44
root_small root size lies small = omega (arith, lies, small)

table_small : (table size : ℕ) → (table + 1) * 4096 ≤ size → size ≤ 2 ^ 29 → table < 2 ^ 32
table_small table size lies small = omega (arith, lies, small)

block_small : (block size : ℕ) → block * 2097152 + 2097152 ≤ size → size ≤ 2 ^ 29 → block < 2 ^ 32
block_small block size lies small = omega (arith, lies, small)

blocks_small : (blocks : List ℕ) (size : ℕ) → SlicesLieIn block_size blocks size → size ≤ 2 ^ 29 → (i : ℕ) → slice_index blocks i < 2 ^ 32
blocks_small blocks size lie small i = by (cases_lt i (length blocks))
  where
    by : (i < length blocks) ⊎ (length blocks ≤ i) → slice_index blocks i < 2 ^ 32
    by (inl inside) = block_small (slice_index blocks i) size (lie i inside) small
    by (inr past) = let none : slice_index blocks i ≡ 0 = get_or_past blocks i 0 past in rw none (omega arith)

-- by where the address is
end_by : (memory : List ℕ) (mxr : Bool) (blocks : List ℕ) (address : ℕ) (access : Access) → SlicesLieIn block_size blocks (length memory) → (b : Bool)
    → (nat_le ram_base address && nat_lt address (ram_base + length blocks * block_size)) ≡ b
    → place_under address (second_end (machine_memory memory) mxr address access (cond b (end_at_leaf (full (slice_index blocks ((address - ram_base) / block_size) * 512))) PageFault))
    ≡ cond b (Some (host_place blocks (address - ram_base))) None
end_by memory mxr blocks address access lie true is =
    in_ram_end memory mxr blocks address access lie (grind (arith, is)) (grind (arith, is))
end_by memory mxr blocks address access lie false is = refl

-- the law
pub gives_ram : (part : Layout) → NamesEachOnce part → GivesRam part
unfolding second_walk
gives_ram part once memory mxr vmid address access held =
    let lie = blocks_lie_in part.blocks (length memory) (first_lies (in_blocks part.blocks) (in_tables part) (length memory) held.lies) in
    let root = root_frame part.first_root once.aligned (root_small part.first_root (length memory) (root_room part (length memory) held.lies) held.size) in
    let walked = walks_to_ram part once.few (table_small part.first_table (length memory) (table_room part (length memory) held.lies) held.size)
    (blocks_small part.blocks (length memory) lie held.size) memory (memory_words (machine_memory memory)) address access held.table (reads part memory held.lies) in
    rw (root, walked) (end_by memory mxr part.blocks address access lie _ refl)

-- so where there is no place the walk has no leaf
no_leaf : (memory : List ℕ) (mxr : Bool) (blocks : List ℕ) (address : ℕ) (access : Access) → (b : Bool) → cond b (Some (host_place blocks (address - ram_base))) None ≡ None
    → second_end (machine_memory memory) mxr address access (cond b (end_at_leaf (full (slice_index blocks ((address - ram_base) / block_size) * 512))) PageFault) ≡ GuestPageFault
no_leaf memory mxr blocks address access true none = absurd (cc)
no_leaf memory mxr blocks address access false none = refl

pub host_misses : (part : Layout) → NamesEachOnce part → OutsideIsGuestPageFault part
unfolding second_walk
host_misses part once memory mxr address access held none =
    let lie = blocks_lie_in part.blocks (length memory) (first_lies (in_blocks part.blocks) (in_tables part) (length memory) held.lies) in
    let root = root_frame part.first_root once.aligned (root_small part.first_root (length memory) (root_room part (length memory) held.lies) held.size) in
    let walked = walks_to_ram part once.few (table_small part.first_table (length memory) (table_room part (length memory) held.lies) held.size)
    (blocks_small part.blocks (length memory) lie held.size) memory (memory_words (machine_memory memory)) address access held.table (reads part memory held.lies) in
    rw (root, walked) (no_leaf memory mxr part.blocks address access (nat_le ram_base address && nat_lt address (ram_base + length part.blocks * block_size)) none)

-- the host table stays where the bytes of its frames do
pub table_stays : (part : Layout) (old new : List ℕ) → Same (host_frames part) old new → IsHostTable part old → IsHostTable part new
table_stays part old new same table = record {
  root = entries_stay part.first_root 4 2048 (root_word part.first_table) old new (omega arith)
      (same_fewer (within part.first_root 4) (host_frames part) old new (left_within (within part.first_root 4) (within part.first_table 1)) same) table.root;
  leaves = entries_stay part.first_table 1 512 (block_leaf_word part.blocks) old new (omega arith)
      (same_fewer (within part.first_table 1) (host_frames part) old new (right_within (within part.first_root 4) (within part.first_table 1)) same) table.leaves;
}

-- and so the part is held as before
pub held_stays : (part : Layout) (old new : List ℕ) → Same (host_frames part) old new → IsHeld part old → IsHeld part new
held_stays part old new same held =
    record { size = rw same.size held.size; lies = rw same.size held.lies; table = table_stays part old new same held.table }

-- no block of the part is in the host table
pub host_apart_from_blocks : (part : Layout) → NamesEachOnce part → Apart (host_frames part) (in_blocks part.blocks)
host_apart_from_blocks part once =
    within_apart (host_frames part) (in_tables part) (in_blocks part.blocks) (host_in_tables part) (apart_sym (in_blocks part.blocks) (in_tables part) once.tables)

-- so after a change of the blocks
pub held_by_blocks : (part : Layout) (old new : List ℕ) → NamesEachOnce part → IsHeld part old → Only (in_blocks part.blocks) old new → IsHeld part new
held_by_blocks part old new once held only =
    held_stays part old new (kept (host_frames part) (in_blocks part.blocks) old new (host_apart_from_blocks part once) only) held
