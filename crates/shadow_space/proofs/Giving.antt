-- The second stage by a tidy space's table.
use Rattle.std.specs.Prelude.{◌&&◌, nat_le, nat_lt, option_map}
use Rattle.std.proofs.Common.{◌≡◌, ℕ, ◌+◌, ◌-◌, ◌*◌, ◌/◌, ◌%◌, ◌<◌, ◌≤◌, ◌^◌, ◌⊎◌, inl, inr, Bool, true, false, not, List, Option, Some, None, length, slice_index, if◌then◌else◌, refl, sym, ap, ◌∙◌, arith}
use Rattle.std.proofs.lemmas.Bool.{and_from, and_right, cases_Bool, le-leb, lt-ltb}
use Rattle.arch_defs.specs.declared.cached.Entry.{Entry}
use Rattle.arch_defs.specs.declared.second_walks.SecondWalkEnd.TheVariants.{GuestPageFault}
use Rattle.arch_defs.specs.declared.second_walks.SecondWalkEnd.TheVariants as guest
use Rattle.arch_defs.specs.declared.modes.Access.{Access}
use Rattle.arch_defs.specs.declared.modes.Access.TheVariants.{Fetch, Load, Store, ExecLoad, Implicit}
use Rattle.arch_defs.specs.declared.walks.LeafPte.{LeafPte}
use Rattle.arch_defs.specs.declared.walks.WalkEnd.TheVariants.{PageFault}
use Rattle.arch_defs.specs.Frames.{LieIn, in_blocks}
use Rattle.arch_defs.specs.Memory.{block_size, machine_memory, ram_base}
use Rattle.arch_defs.specs.Permits.{permits_second}
use Rattle.arch_defs.specs.Ram.{host_place}
use Rattle.arch_defs.specs.SecondStage.{memory_words, place_under, second_end, second_walk}
use Rattle.arch_defs.specs.TableEntries.{end_at_leaf, needs_dirty}
use Rattle.arch_defs.specs.Walk.{leaf_address}
use Rattle.arch_defs.proofs.RamBlocks.{host_place_along, place_named}
use Rattle.arch_defs.specs.CachedEntries.{CanFill, entry_at, is_device, leaf_of, place_by, second_by}
use Rattle.shadow_space.specs.Folding.{leaf_end}
use Rattle.table_words.proofs.Readings.{has, memory_reads, root_frame}
use Rattle.shadow_space.specs.Laws.{EntriesGiveRam, GivesEntries, MissesAreGuestPageFaults}
use Rattle.shadow_space.specs.Leaves.{frame_of_ram}
use Rattle.shadow_space.specs.Shadows.{Shadow, Tidy, own_frames, root_of}
use Rattle.shadow_space.specs.Trees.{folded_shape}
use Rattle.shadow_space.proofs.Finding.{found_has}
use Rattle.shadow_space.proofs.Reachable.{is_of_ram}
use Rattle.shadow_space.proofs.Tidying.{folded, root_aligned, tables_placed, tidy_parts}

-- the walk's end for an entry
pub walk_is : (space : Shadow) (memory : List ℕ) (mxr : Bool) (address : ℕ) (access : Access) → Tidy space memory
    → second_walk (machine_memory memory) mxr folded_shape (root_of space) address access ≡ second_end (machine_memory memory) mxr address access (leaf_end space.part.blocks access (entry_at (address / 4096) space.entries))
unfolding second_walk
walk_is space memory mxr address access tidy =
    let parts = tidy_parts space memory tidy in
    let placed = tables_placed space (length memory) parts.is parts.lies in
    let small = placed.root in
    let root = root_frame (root_of space) (root_aligned space.part space.index parts.is.once) (omega (arith, small)) in
    let walked = (folded space memory tidy).walks (memory_words (machine_memory memory)) address access (memory_reads (own_frames space) memory parts.lies) in
    rw (root, walked) refl

-- the place of a page's byte under its leaf
place_in_page : (blocks : List ℕ) (frame r : ℕ) → r < 4096 → ram_base ≤ frame * 4096
    → host_place blocks (4096 * frame + r - ram_base) ≡ 4096 * frame_of_ram blocks frame + r
place_in_page blocks frame r small from =
    ap (host_place blocks) (along frame r from)
    ∙ host_place_along blocks (frame * 4096 - ram_base) r (fits frame r small from)
    ∙ ap (λ n. n + r) (whole (slice_index blocks ((frame * 4096 - ram_base) / block_size)) frame from)
  where
    along : (frame r : ℕ) → 2147483648 ≤ frame * 4096 → 4096 * frame + r - 2147483648 ≡ frame * 4096 - 2147483648 + r
    along frame r from = omega (arith, from)

    fits : (frame r : ℕ) → r < 4096 → 2147483648 ≤ frame * 4096 → (frame * 4096 - 2147483648) % 2097152 + r < 2097152
    fits frame r small from = omega (arith, small, from)

    whole : (n frame : ℕ) → 2147483648 ≤ frame * 4096 → n * 2097152 + (frame * 4096 - 2147483648) % 2097152 ≡ 4096 * ((n * 2097152 + (frame * 4096 - 2147483648) % 2097152) / 4096)
    whole n frame from = omega (arith, from)

-- an entry's leaf in machine memory; permission does not depend on its frame
abbrev host_leaf : List ℕ → Entry → LeafPte
host_leaf blocks e = record { frame = frame_of_ram blocks e.frame; level = 0; r = e.r; w = e.w; x = e.x; u = true }

permits_same : (mxr : Bool) (access : Access) (blocks : List ℕ) (e : Entry) → permits_second mxr access (host_leaf blocks e) ≡ permits_second mxr access (leaf_of e)
unfolding permits_second
permits_same mxr Fetch blocks e = refl
permits_same mxr Load blocks e = refl
permits_same mxr Store blocks e = refl
permits_same mxr ExecLoad blocks e = refl
permits_same mxr Implicit blocks e = refl

never_written : (mxr : Bool) (e : Entry) → e.w ≡ false → permits_second mxr Store (leaf_of e) ≡ false
unfolding permits_second
never_written mxr e clean = clean

dirty_end : (clean : Bool) (leaf : LeafPte) → clean ≡ false → (if clean then PageFault else end_at_leaf leaf) ≡ end_at_leaf leaf
dirty_end clean leaf is = rw is refl

clean_end : (clean : Bool) (leaf : LeafPte) → clean ≡ true → (if clean then PageFault else end_at_leaf leaf) ≡ PageFault
clean_end clean leaf is = rw is refl

-- its frame is in memory
in_memory : (frame r size : ℕ) → frame * 4096 + 4096 ≤ size → r < 4096 → (4096 * frame + r) / 4096 * 4096 + 4096 ≤ size
in_memory frame r size lies small = omega (arith, lies, small)

frame_lies : (blocks : List ℕ) (size : ℕ) (e : Entry) → LieIn (in_blocks blocks) size → CanFill blocks e → is_device e ≡ false → frame_of_ram blocks e.frame * 4096 + 4096 ≤ size
frame_lies blocks size e lie can off =
    let inside = is_of_ram blocks e can off in
    let from = inside.0 in
    let to = inside.1 in
    lie (frame_of_ram blocks e.frame) (place_named blocks (e.frame * 4096 - ram_base) (omega (arith, from, to)))

-- an entry of the device page gives no place, and any other one as it permits
place_on : (mxr : Bool) (address : ℕ) (access : Access) (e : Entry) → is_device e ≡ true → place_by mxr address access (Some e) ≡ None
place_on mxr address access e on = rw (and_right (permits_second mxr access (leaf_of e)) (not (is_device e)) (ap not on)) refl

place_off : (mxr : Bool) (address : ℕ) (access : Access) (e : Entry) → is_device e ≡ false
    → place_by mxr address access (Some e) ≡ (if permits_second mxr access (leaf_of e) then Some (leaf_address (leaf_of e) address) else None)
place_off mxr address access e off = by (permits_second mxr access (leaf_of e))
  where
    by : (p : Bool) → (if p && not (is_device e) then Some (leaf_address (leaf_of e) address) else None) ≡ (if p then Some (leaf_address (leaf_of e) address) else None)
    by true = rw off refl
    by false = refl

-- so ends the walk
end_on : (blocks : List ℕ) (access : Access) (e : Entry) → is_device e ≡ true → leaf_end blocks access (Some e) ≡ PageFault
end_on blocks access e on = rw on refl

end_off : (blocks : List ℕ) (access : Access) (e : Entry) → is_device e ≡ false
    → leaf_end blocks access (Some e) ≡ (if needs_dirty access && not e.w then PageFault else end_at_leaf (host_leaf blocks e))
end_off blocks access e off = rw off refl

module _ (blocks memory : List ℕ) (mxr : Bool) (address : ℕ) (lie : LieIn (in_blocks blocks) (length memory)) (e : Entry) (can : CanFill blocks e) (off : is_device e ≡ false) where
  -- the end under the leaf, by permission
  by_permission : (access : Access) (p : Bool) → permits_second mxr access (leaf_of e) ≡ p
      → second_end (machine_memory memory) mxr address access (end_at_leaf (host_leaf blocks e)) ≡ (if p then guest.Leaf (host_leaf blocks e) else GuestPageFault)
  by_permission access true is =
      let permits : permits_second mxr access (host_leaf blocks e) ≡ true = permits_same mxr access blocks e ∙ is in
      let fits = in_memory (frame_of_ram blocks e.frame) (address % 2 ^ 12) (length memory) (frame_lies blocks (length memory) e lie can off) (omega arith) in
      rw (permits, has memory ((4096 * frame_of_ram blocks e.frame + address % 2 ^ 12) / 4096 * 4096) 4096 fits) refl
  by_permission access false is =
      let refuses : permits_second mxr access (host_leaf blocks e) ≡ false = permits_same mxr access blocks e ∙ is in rw refuses refl

  by_access : (access : Access) → second_end (machine_memory memory) mxr address access (if needs_dirty access && not e.w then PageFault else end_at_leaf (host_leaf blocks e))
      ≡ (if permits_second mxr access (leaf_of e) then guest.Leaf (host_leaf blocks e) else GuestPageFault)
  by_access Fetch = by_permission Fetch (permits_second mxr Fetch (leaf_of e)) refl
  by_access Load = by_permission Load (permits_second mxr Load (leaf_of e)) refl
  by_access ExecLoad = by_permission ExecLoad (permits_second mxr ExecLoad (leaf_of e)) refl
  by_access Implicit = by_permission Implicit (permits_second mxr Implicit (leaf_of e)) refl
  by_access Store = by (cases_Bool e.w)
    where
      by : (e.w ≡ true) ⊎ (e.w ≡ false) → second_end (machine_memory memory) mxr address Store (if not e.w then PageFault else end_at_leaf (host_leaf blocks e)) ≡ (if permits_second mxr Store (leaf_of e) then guest.Leaf (host_leaf blocks e) else GuestPageFault)
      by (inl dirty) = ap (second_end (machine_memory memory) mxr address Store) (dirty_end (not e.w) (host_leaf blocks e) (ap not dirty)) ∙ by_permission Store (permits_second mxr Store (leaf_of e)) refl
      by (inr clean) = ap (second_end (machine_memory memory) mxr address Store) (clean_end (not e.w) (host_leaf blocks e) (ap not clean)) ∙ sym (rw (never_written mxr e clean) refl)

  end_is : (access : Access) → second_end (machine_memory memory) mxr address access (leaf_end blocks access (Some e)) ≡ (if permits_second mxr access (leaf_of e) then guest.Leaf (host_leaf blocks e) else GuestPageFault)
  end_is access = ap (second_end (machine_memory memory) mxr address access) (end_off blocks access e off) ∙ by_access access

  -- so the place is the entry's, in machine memory
  placed_by : (access : Access) (p : Bool)
      → place_under address (if p then guest.Leaf (host_leaf blocks e) else GuestPageFault)
      ≡ option_map (λ place. host_place blocks (place - ram_base)) (if p then Some (leaf_address (leaf_of e) address) else None)
  placed_by access true = ap Some (sym (place_in_page blocks e.frame (address % 4096) (omega arith) (is_of_ram blocks e can off).0))
  placed_by access false = refl

  given_off : (access : Access) → place_under address (second_end (machine_memory memory) mxr address access (leaf_end blocks access (Some e)))
      ≡ option_map (λ place. host_place blocks (place - ram_base)) (place_by mxr address access (Some e))
  given_off access =
      ap (place_under address) (end_is access) ∙ placed_by access (permits_second mxr access (leaf_of e))
      ∙ ap (option_map (λ place. host_place blocks (place - ram_base))) (sym (place_off mxr address access e off))

  refused_off : (access : Access) → place_by mxr address access (Some e) ≡ None → second_end (machine_memory memory) mxr address access (leaf_end blocks access (Some e)) ≡ GuestPageFault
  refused_off access none = end_is access ∙ by (permits_second mxr access (leaf_of e)) (sym (place_off mxr address access e off) ∙ none)
    where
      by : (p : Bool) → (if p then Some (leaf_address (leaf_of e) address) else None) ≡ None → (if p then guest.Leaf (host_leaf blocks e) else GuestPageFault) ≡ GuestPageFault
      by true none = absurd cc
      by false none = refl

faults_on : (blocks memory : List ℕ) (mxr : Bool) (address : ℕ) (access : Access) (e : Entry) → is_device e ≡ true
    → second_end (machine_memory memory) mxr address access (leaf_end blocks access (Some e)) ≡ GuestPageFault
faults_on blocks memory mxr address access e on = ap (second_end (machine_memory memory) mxr address access) (end_on blocks access e on)

given : (blocks memory : List ℕ) (mxr : Bool) (address : ℕ) (access : Access) (o : Option Entry) → LieIn (in_blocks blocks) (length memory) → ((e : Entry) → o ≡ Some e → CanFill blocks e)
    → place_under address (second_end (machine_memory memory) mxr address access (leaf_end blocks access o)) ≡ option_map (λ place. host_place blocks (place - ram_base)) (place_by mxr address access o)
given blocks memory mxr address access None lie can = refl
given blocks memory mxr address access (Some e) lie can = by (cases_Bool (is_device e))
  where
    by : (is_device e ≡ true) ⊎ (is_device e ≡ false)
        → place_under address (second_end (machine_memory memory) mxr address access (leaf_end blocks access (Some e))) ≡ option_map (λ place. host_place blocks (place - ram_base)) (place_by mxr address access (Some e))
    by (inl on) =
        ap (place_under address) (faults_on blocks memory mxr address access e on)
        ∙ ap (option_map (λ place. host_place blocks (place - ram_base))) (sym (place_on mxr address access e on))
    by (inr off) = given_off blocks memory mxr address lie e (can e refl) off access

refused : (blocks memory : List ℕ) (mxr : Bool) (address : ℕ) (access : Access) (o : Option Entry) → LieIn (in_blocks blocks) (length memory) → ((e : Entry) → o ≡ Some e → CanFill blocks e)
    → place_by mxr address access o ≡ None → second_end (machine_memory memory) mxr address access (leaf_end blocks access o) ≡ GuestPageFault
refused blocks memory mxr address access None lie can none = refl
refused blocks memory mxr address access (Some e) lie can none = by (cases_Bool (is_device e))
  where
    by : (is_device e ≡ true) ⊎ (is_device e ≡ false) → second_end (machine_memory memory) mxr address access (leaf_end blocks access (Some e)) ≡ GuestPageFault
    by (inl on) = faults_on blocks memory mxr address access e on
    by (inr off) = refused_off blocks memory mxr address lie e (can e refl) off access none

can_of : (space : Shadow) (memory : List ℕ) (page : ℕ) → Tidy space memory → (e : Entry) → entry_at page space.entries ≡ Some e → CanFill space.part.blocks e
can_of space memory page tidy e found = (found_has (CanFill space.part.blocks) page space.entries e (tidy_parts space memory tidy).is.fill found).0

pub gives : GivesEntries
unfolding second_by
gives space memory mxr vmid address access tidy lie =
    ap (place_under address) (walk_is space memory mxr address access tidy)
    ∙ given space.part.blocks memory mxr address access (entry_at (address / 4096) space.entries) lie (can_of space memory (address / 4096) tidy)

pub lacks : MissesAreGuestPageFaults
unfolding second_by
lacks space memory mxr address access tidy lie none =
    walk_is space memory mxr address access tidy
    ∙ refused space.part.blocks memory mxr address access (entry_at (address / 4096) space.entries) lie (can_of space memory (address / 4096) tidy) none

-- the place that an entry gives is in RAM
page_in_ram : (frame r count place : ℕ) → 2147483648 ≤ frame * 4096 → frame * 4096 < 2147483648 + count * 2097152 → r < 4096 → 4096 * frame + r ≡ place
    → (2147483648 ≤ place) × (place < 2147483648 + count * 2097152)
page_in_ram frame r count place from to small is = (omega (arith, from, is), omega (arith, to, small, is))

same_offset : (frame address place : ℕ) → 4096 * frame + address % 4096 ≡ place → place % 4096 ≡ address % 4096
same_offset frame address place is = omega (arith, is)

given_in_ram : (blocks : List ℕ) (mxr : Bool) (address place : ℕ) (access : Access) (o : Option Entry) → ((e : Entry) → o ≡ Some e → CanFill blocks e) → place_by mxr address access o ≡ Some place
    → ((nat_le ram_base place && nat_lt place (ram_base + length blocks * block_size)) ≡ true) × (place % 4096 ≡ address % 4096)
given_in_ram blocks mxr address place access None can is = absurd cc
given_in_ram blocks mxr address place access (Some e) can is = by (cases_Bool (is_device e))
  where
    within : is_device e ≡ false → (p : Bool) → (if p then Some (leaf_address (leaf_of e) address) else None) ≡ Some place
        → ((nat_le ram_base place && nat_lt place (ram_base + length blocks * block_size)) ≡ true) × (place % 4096 ≡ address % 4096)
    within off true is =
        let there : 4096 * e.frame + address % 4096 ≡ place = cc in
        let frame = is_of_ram blocks e (can e refl) off in
        let inside = page_in_ram e.frame (address % 4096) (length blocks) place frame.0 frame.1 (omega arith) there in
        (and_from (nat_le ram_base place) (nat_lt place (ram_base + length blocks * block_size)) (le-leb ram_base place inside.0) (lt-ltb place (ram_base + length blocks * block_size) inside.1), same_offset e.frame address place there)
    within off false is = absurd cc

    by : (is_device e ≡ true) ⊎ (is_device e ≡ false) → ((nat_le ram_base place && nat_lt place (ram_base + length blocks * block_size)) ≡ true) × (place % 4096 ≡ address % 4096)
    by (inl on) = let none : place_by mxr address access (Some e) ≡ None = place_on mxr address access e on in absurd cc
    by (inr off) = within off (permits_second mxr access (leaf_of e)) (sym (place_off mxr address access e off) ∙ is)

pub in_ram : EntriesGiveRam
unfolding second_by
in_ram space memory mxr address place access tidy is =
    given_in_ram space.part.blocks mxr address place access (entry_at (address / 4096) space.entries) (can_of space memory (address / 4096) tidy) is
