-- The walk of a host table.
use Rattle.std.proofs.Common.{◌≡◌, ℕ, ◌+◌, ◌-◌, ◌*◌, ◌/◌, ◌%◌, ◌<◌, ◌≤◌, ◌^◌, ◌⊎◌, inl, inr, true, false, nat_le, nat_lt, List, Ok, length, slice_index, refl, sym, ap, subst, ◌∙◌, arith}
use Rattle.std.proofs.lemmas.Bool.{cases_lt, eq-eqb, ne_eqb, and_from, and_left, and_right, le-leb, lt-leb, lt-ltb, le-ltb}
use Rattle.arch_defs.specs.declared.modes.Access.{Access}
use Rattle.arch_defs.specs.declared.walks.Shape.TheVariants.{Sv39x4}
use Rattle.arch_defs.specs.declared.walks.Next.TheVariants.{Ends}
use Rattle.arch_defs.specs.declared.walks.WalkEnd.TheVariants.{Leaf, PageFault}
use Rattle.arch_defs.specs.TableEntries.{pte_of, entry_next, needs_dirty}
use Rattle.arch_defs.specs.Frames.{within}
use Rattle.arch_defs.specs.Layouts.{Layout, host_frames}
use Rattle.arch_defs.specs.Memory.{ram_base, block_size}
use Rattle.arch_defs.specs.Walk.{EntryReading, place_of, met_in, next_of, read_next, walk}
use Rattle.stage_walk.specs.ByLevels.{walk_from}
use Rattle.arch_defs.proofs.FrameSets.{left_within, right_within}
use Rattle.stage_walk.proofs.Levels.{walk_starts, walk_refused, from_ends, from_below}
use Rattle.host_tables.specs.HostTable.{IsHostTable, root_word, block_leaf, block_leaf_word}
use Rattle.host_tables.specs.Walks.{host_walk, WalksToRam}
use Rattle.host_tables.proofs.Entries.{entry_in}
use Rattle.stage_walk.proofs.EntryWords.{leaf_gives_rights, pointer_leads_below, zero_maps_nothing}
use Rattle.table_words.specs.Entries.{ReadsIn}
use Rattle.table_words.proofs.Readings.{entry_read}

-- the indexes of an address
root_index : (va : ℕ) → va / 2 ^ 30 % 2 ^ 11 < 2048
root_index va = omega arith

leaf_index : (va : ℕ) → va / 2 ^ 21 % 2 ^ 9 < 512
leaf_index va = omega arith

ram_index : (va : ℕ) → va < 2 ^ 41 → va / 2 ^ 30 % 2 ^ 11 ≡ 2 → (2147483648 ≤ va) × (va < 3221225472)
ram_index va h e = (omega arith, omega arith)

index_of_ram : (va : ℕ) → 2147483648 ≤ va → va < 3221225472 → va / 2 ^ 30 % 2 ^ 11 ≡ 2
index_of_ram va from to = omega arith

index_of_block : (va : ℕ) → 2147483648 ≤ va → va < 3221225472 → va / 2 ^ 21 % 2 ^ 9 ≡ (va - 2147483648) / 2097152
index_of_block va from to = omega arith

pub block_below : (offset count : ℕ) → offset < count * 2097152 → offset / 2097152 < count
block_below offset count h = omega arith

block_above : (offset count : ℕ) → count * 2097152 ≤ offset → count ≤ offset / 2097152
block_above offset count h = omega arith

-- what is read of the table
root_read : (part : Layout) (memory : List ℕ) (reading : EntryReading) (i : ℕ) → IsHostTable part memory → ReadsIn (host_frames part) memory reading → i < 2048
    → reading (4096 * part.first_root + 8 * i) ≡ Ok (root_word part.first_table i)
root_read part memory reading i table reads h =
    entry_read (host_frames part) memory reading part.first_root i reads
    (left_within (within part.first_root 4) (within part.first_table 1) ((512 * part.first_root + i) / 512) (entry_in part.first_root 4 i (omega (arith, h))))
    ∙ ap (λ n. Ok n) (table.root.each i h)

leaf_read : (part : Layout) (memory : List ℕ) (reading : EntryReading) (i : ℕ) → IsHostTable part memory → ReadsIn (host_frames part) memory reading → i < 512
    → reading (4096 * part.first_table + 8 * i) ≡ Ok (block_leaf_word part.blocks i)
leaf_read part memory reading i table reads h =
    entry_read (host_frames part) memory reading part.first_table i reads
    (right_within (within part.first_root 4) (within part.first_table 1) ((512 * part.first_table + i) / 512) (entry_in part.first_table 1 i (omega (arith, h))))
    ∙ ap (λ n. Ok n) (table.leaves.each i h)

-- what a block's leaf says
whole : (block : ℕ) → block * 512 % 512 ≡ 0
whole block = omega arith

leaf_says : (block : ℕ) (access : Access) → block < 2 ^ 32
    → entry_next 1 access (pte_of (block_leaf block)) ≡ Ends (Leaf (block * 512) 1 true true true true)
leaf_says block access small =
    leaf_gives_rights 1 (block * 512) true true true access (omega (arith, small)) (rw (whole block) refl) refl (λ h. refl)
    ∙ rw (and_right (needs_dirty access) false refl) refl

-- what the entries of an address say
root_next : (part : Layout) (memory : List ℕ) (reading : EntryReading) (va : ℕ) (access : Access) → IsHostTable part memory → ReadsIn (host_frames part) memory reading
    → next_of access (met_in reading Sv39x4 va 2 part.first_root) ≡ entry_next 2 access (pte_of (root_word part.first_table (va / 2 ^ 30 % 2 ^ 11)))
root_next part memory reading va access table reads =
    ap (read_next 2 (place_of Sv39x4 2 part.first_root va) access) (root_read part memory reading (va / 2 ^ 30 % 2 ^ 11) table reads (root_index va))

leaf_next_of : (part : Layout) (memory : List ℕ) (reading : EntryReading) (va : ℕ) (access : Access) → IsHostTable part memory → ReadsIn (host_frames part) memory reading
    → next_of access (met_in reading Sv39x4 va 1 part.first_table) ≡ entry_next 1 access (pte_of (block_leaf_word part.blocks (va / 2 ^ 21 % 2 ^ 9)))
leaf_next_of part memory reading va access table reads =
    ap (read_next 1 (place_of Sv39x4 1 part.first_table va) access) (leaf_read part memory reading (va / 2 ^ 21 % 2 ^ 9) table reads (leaf_index va))

-- outside the GiB of RAM the root maps nothing
away : (part : Layout) (memory : List ℕ) (reading : EntryReading) (va : ℕ) (access : Access) → IsHostTable part memory → ReadsIn (host_frames part) memory reading
    → (va / 2 ^ 30 % 2 ^ 11 ≡ 2 → ⊥) → walk_from reading Sv39x4 va access 3 part.first_root ≡ PageFault
away part memory reading va access table reads other =
    from_ends reading Sv39x4 va access 3 2 part.first_root PageFault refl
    (root_next part memory reading va access table reads ∙ rw (ne_eqb (va / 2 ^ 30 % 2 ^ 11) 2 other) (zero_maps_nothing 2 access))

-- and in it the leaf of the block
there : (part : Layout) (memory : List ℕ) (reading : EntryReading) (va : ℕ) (access : Access) → IsHostTable part memory → ReadsIn (host_frames part) memory reading
    → part.first_table < 2 ^ 32 → va / 2 ^ 30 % 2 ^ 11 ≡ 2
    → walk_from reading Sv39x4 va access 3 part.first_root ≡ walk_from reading Sv39x4 va access 2 part.first_table
there part memory reading va access table reads small ram =
    from_below reading Sv39x4 va access 3 2 part.first_root part.first_table refl
    (root_next part memory reading va access table reads ∙ rw (eq-eqb (va / 2 ^ 30 % 2 ^ 11) 2 ram) (pointer_leads_below 1 part.first_table access (omega (arith, small))))

mapped : (part : Layout) (memory : List ℕ) (reading : EntryReading) (va : ℕ) (access : Access) → IsHostTable part memory → ReadsIn (host_frames part) memory reading
    → ((i : ℕ) → slice_index part.blocks i < 2 ^ 32) → va / 2 ^ 21 % 2 ^ 9 < length part.blocks
    → walk_from reading Sv39x4 va access 2 part.first_table
    ≡ Leaf (slice_index part.blocks (va / 2 ^ 21 % 2 ^ 9) * 512) 1 true true true true
mapped part memory reading va access table reads small inside =
    from_ends reading Sv39x4 va access 2 1 part.first_table
    (Leaf (slice_index part.blocks (va / 2 ^ 21 % 2 ^ 9) * 512) 1 true true true true) refl
    (leaf_next_of part memory reading va access table reads
    ∙ rw (lt-ltb (va / 2 ^ 21 % 2 ^ 9) (length part.blocks) inside) (leaf_says (slice_index part.blocks (va / 2 ^ 21 % 2 ^ 9)) access (small (va / 2 ^ 21 % 2 ^ 9))))

unmapped : (part : Layout) (memory : List ℕ) (reading : EntryReading) (va : ℕ) (access : Access) → IsHostTable part memory → ReadsIn (host_frames part) memory reading
    → length part.blocks ≤ va / 2 ^ 21 % 2 ^ 9 → walk_from reading Sv39x4 va access 2 part.first_table ≡ PageFault
unmapped part memory reading va access table reads outside =
    from_ends reading Sv39x4 va access 2 1 part.first_table PageFault refl
    (leaf_next_of part memory reading va access table reads
    ∙ rw (le-ltb (va / 2 ^ 21 % 2 ^ 9) (length part.blocks) outside) (zero_maps_nothing 1 access))

-- the law, by where the address is
in_ram : (blocks : List ℕ) (va : ℕ) → 2147483648 ≤ va → va < 2147483648 + length blocks * 2097152
    → host_walk blocks va ≡ Leaf (slice_index blocks ((va - 2147483648) / 2097152) * 512) 1 true true true true
in_ram blocks va from to =
    rw (and_from (nat_le ram_base va) (nat_lt va (ram_base + length blocks * block_size)) (le-leb ram_base va from) (lt-ltb va (ram_base + length blocks * block_size) to)) refl

below_ram : (blocks : List ℕ) (va : ℕ) → va < 2147483648 → host_walk blocks va ≡ PageFault
below_ram blocks va below = rw (and_left (nat_le ram_base va) (nat_lt va (ram_base + length blocks * block_size)) (lt-leb ram_base va below)) refl

above_ram : (blocks : List ℕ) (va : ℕ) → 2147483648 + length blocks * 2097152 ≤ va → host_walk blocks va ≡ PageFault
above_ram blocks va above =
    rw (and_right (nat_le ram_base va) (nat_lt va (ram_base + length blocks * block_size)) (le-ltb va (ram_base + length blocks * block_size) above)) refl

few_end : (count : ℕ) → count ≤ 32 → 2147483648 + count * 2097152 < 3221225472
few_end count h = omega arith

count_room : (va count : ℕ) → 2147483648 ≤ va → va < 2147483648 + count * 2097152 → va - 2147483648 < count * 2097152
count_room va count from to = omega arith

count_past : (va count : ℕ) → 2147483648 + count * 2097152 ≤ va → count * 2097152 ≤ va - 2147483648
count_past va count past = omega arith

no_ram_index : (va : ℕ) → va < 2 ^ 41 → (va < 2147483648) ⊎ (3221225472 ≤ va) → va / 2 ^ 30 % 2 ^ 11 ≡ 2 → ⊥
no_ram_index va h (inl below) e = let x = ram_index va h e in omega (arith, x.0, below)
no_ram_index va h (inr above) e = let x = ram_index va h e in omega (arith, x.1, above)

by_place : (part : Layout) (memory : List ℕ) (reading : EntryReading) (va : ℕ) (access : Access) → length part.blocks ≤ 32 → part.first_table < 2 ^ 32
    → ((i : ℕ) → slice_index part.blocks i < 2 ^ 32) → IsHostTable part memory → ReadsIn (host_frames part) memory reading → va < 2 ^ 41
    → (va < 2147483648) ⊎ (2147483648 ≤ va) → (va < 2147483648 + length part.blocks * 2097152) ⊎ (2147483648 + length part.blocks * 2097152 ≤ va) → (va < 3221225472) ⊎ (3221225472 ≤ va)
    → walk_from reading Sv39x4 va access 3 part.first_root ≡ host_walk part.blocks va
by_place part memory reading va access few small_table small table reads low (inl below) y z =
    away part memory reading va access table reads (no_ram_index va low (inl below)) ∙ sym (below_ram part.blocks va below)
by_place part memory reading va access few small_table small table reads low (inr from) (inl to) z =
    let gib : va < 3221225472 = omega (arith, to, few_end (length part.blocks) few) in
    let index = index_of_block va from gib in
    let inside = block_below (va - 2147483648) (length part.blocks) (count_room va (length part.blocks) from to) in
    there part memory reading va access table reads small_table (index_of_ram va from gib)
    ∙ (mapped part memory reading va access table reads small (subst (λ n. n < length part.blocks) (sym index) inside)
    ∙ (ap (λ n. Leaf (slice_index part.blocks n * 512) 1 true true true true) index ∙ sym (in_ram part.blocks va from to)))
by_place part memory reading va access few small_table small table reads low (inr from) (inr past) (inl gib) =
    let index = index_of_block va from gib in
    let outside = block_above (va - 2147483648) (length part.blocks) (count_past va (length part.blocks) past) in
    there part memory reading va access table reads small_table (index_of_ram va from gib)
    ∙ (unmapped part memory reading va access table reads (subst (λ n. length part.blocks ≤ n) (sym index) outside) ∙ sym (above_ram part.blocks va past))
by_place part memory reading va access few small_table small table reads low (inr from) (inr past) (inr beyond) =
    away part memory reading va access table reads (no_ram_index va low (inr beyond)) ∙ sym (above_ram part.blocks va past)

beyond_gib : (va count : ℕ) → count ≤ 32 → 2 ^ 41 ≤ va → 2147483648 + count * 2097152 ≤ va
beyond_gib va count few high = omega arith

pub walks_to_ram : (part : Layout) → length part.blocks ≤ 32 → part.first_table < 2 ^ 32 → ((i : ℕ) → slice_index part.blocks i < 2 ^ 32) → WalksToRam part
walks_to_ram part few small_table small memory reading va access table reads = by (cases_lt va (2 ^ 41))
  where
    by : (va < 2 ^ 41) ⊎ (2 ^ 41 ≤ va) → walk reading part.first_root Sv39x4 va access ≡ host_walk part.blocks va
    by (inl low) =
        walk_starts reading part.first_root Sv39x4 va access (lt-ltb va (2 ^ 41) low)
        ∙ by_place part memory reading va access few small_table small table reads low (cases_lt va 2147483648)
        (cases_lt va (2147483648 + length part.blocks * 2097152)) (cases_lt va 3221225472)
    by (inr high) =
        walk_refused reading part.first_root Sv39x4 va access (le-ltb va (2 ^ 41) high)
        ∙ sym (above_ram part.blocks va (beyond_gib va (length part.blocks) few high))
