-- The front space of a pool and its table.
use Rattle.std.proofs.Common.{◌≡◌, ℕ, suc, ◌+◌, ◌-◌, ◌*◌, ◌/◌, ◌%◌, ◌^◌, ◌&&◌, true, false, List, [], ◌∷◌, Option, Some, None, length, get_or, nat_le, nat_lt, refl, sym, ap, subst, ◌∙◌, arith}
use Rattle.std.specs.List.{cons_option}
use Rattle.std.proofs.lemmas.Bool.{ltb-false}
use Rattle.std.specs.Option.{option_map}
use Rattle.arch_defs.specs.declared.cached.Entry.{Entry}
use Rattle.arch_defs.specs.declared.roots.GuestRoot.{GuestRoot}
use Rattle.arch_defs.specs.declared.roots.GuestRoot.TheVariants as root
use Rattle.arch_defs.specs.Frames.{LieIn, in_blocks}
use Rattle.arch_defs.specs.Layouts.{Layout}
use Rattle.arch_defs.specs.Memory.{ram_base, block_size, machine_memory}
use Rattle.arch_defs.specs.Ram.{host_place}
use Rattle.arch_defs.specs.SecondStage.{second_under, second_walk}
use Rattle.arch_defs.proofs.FrameSets.{same_fewer}
use Rattle.arch_defs.specs.Spaces.{Space, entered, front}
use Rattle.arch_defs.specs.CachedEntries.{device_by, device_by_entries, entry_at, second_by}
use Rattle.arch_defs.specs.Roots.{folded_mode}
use Rattle.arch_defs.specs.Walk.{guest_bits}
use Rattle.shadow_space.specs.Trees.{folded_shape}
use Rattle.shadow_space.specs.Shadows.{Shadow, Tidy, own_frames, root_of}
use Rattle.shadow_space.proofs.Giving.{gives, in_ram, lacks}
use Rattle.shadow_space.proofs.Tidying.{lasts, no_entry, tidy_parts}
use Rattle.shadow_pool.specs.declared.slots.Slot.{Slot}
use Rattle.shadow_pool.specs.Laws.{FarIsNotOnDevice, FrontGivesEntries, FrontGivesRam, FrontIsEnteredAgain, FrontMissesAreGuestPageFaults, TidyPoolLasts}
use Rattle.shadow_pool.specs.Slots.{AreSlots, AreTidy, ComesBefore, front_root, space_if, spaces_in, table_frames_for}
use Rattle.shadow_pool.proofs.Entering.{all_spare, entered_found}
use Rattle.shadow_pool.proofs.Keys.{has_of}
use Rattle.shadow_pool.proofs.Ordering.{pairs_first}
use Rattle.shadow_pool.proofs.Tidying.{frames_within}

-- a pool stays tidy
pub pool_lasts : TidyPoolLasts
pool_lasts pool old new same tidy = record {
  slots = tidy.slots;
  tables = λ k d h. lasts (get_or pool.slots k d).space old new
      (same_fewer (own_frames (get_or pool.slots k d).space) (table_frames_for pool.part (length pool.slots)) old new (frames_within pool.part pool.most pool.slots tidy.slots k d h) same) (tidy.tables k d h);
}

-- the first table is that of the first space
record IsFront (part : Layout) (memory : List ℕ) (frame : ℕ) (entries : List Entry) : Type 0 where
  space : Shadow
  tidy : Tidy space memory
  part_is : space.part ≡ part
  root_is : root_of space ≡ frame
  entries_are : space.entries ≡ entries

first_is : (slot : Slot) (rest : List Space) (first : Space) (others : List Space) → (slot.key ≡ None → rest ≡ []) → cons_option (space_if slot.key slot.space.entries) rest ≡ first ∷ others
    → (slot.key ≡ Some first.key) × (slot.space.entries ≡ first.entries)
first_is slot rest first others spare is = by slot.key refl
  where
    by : (o : Option GuestRoot) → slot.key ≡ o → (slot.key ≡ Some first.key) × (slot.space.entries ≡ first.entries)
    by None none =
        let nothing : [] ≡ first ∷ others = sym (spare none) ∙ ap (λ o. cons_option (space_if o slot.space.entries) rest) (sym none) ∙ is in
        let count : 0 ≡ suc (length others) = ap length nothing in
        absurd (omega (arith, count))
    by (Some key) some =
        let both : record { key = key; entries = slot.space.entries } ∷ rest ≡ first ∷ others = ap (λ o. cons_option (space_if o slot.space.entries) rest) (sym some) ∙ is in
        (some ∙ ap (λ xs. Some (get_or xs 0 first).key) both, ap (λ xs. (get_or xs 0 first).entries) both)

front_is : (part : Layout) (most : ℕ) (slots : List Slot) (memory : List ℕ) (first : Space) (others : List Space) → AreSlots part most slots → AreTidy slots memory → spaces_in slots ≡ first ∷ others
    → IsFront part memory (front_root slots) first.entries
front_is part most [] memory first others are tidy is = let some = are.some in absurd (omega (arith, some))
front_is part most (slot ∷ slots) memory first others are tidy is = record {
  space = slot.space;
  tidy = tidy 0 slot (omega arith);
  part_is = (are.each 0 slot (omega arith)).part;
  root_is = refl;
  entries_are = (first_is slot (spaces_in slots) first others (λ none. all_spare slots (λ k d h. (pairs_first ComesBefore slot slots are.order k d h).spare none)) is).1;
}

pub front_gives : FrontGivesEntries
front_gives pool memory first others mxr vmid address access tidy lies is =
    let f = front_is pool.part pool.most pool.slots memory first others tidy.slots tidy.tables is in
    let space = f.space in
    ap (λ frame. second_under (machine_memory memory) mxr (root.Table folded_mode vmid frame) address access) (sym f.root_is)
    ∙ gives space memory mxr vmid address access f.tidy (subst (λ part. LieIn (in_blocks part.blocks) (length memory)) (sym f.part_is) lies)
    ∙ ap (λ part. option_map (λ place. host_place part.blocks (place - ram_base)) (second_by space.entries mxr address access)) f.part_is
    ∙ ap (λ entries. option_map (λ place. host_place pool.part.blocks (place - ram_base)) (second_by entries mxr address access)) f.entries_are

pub front_misses : FrontMissesAreGuestPageFaults
front_misses pool memory first others mxr address access tidy lies is none =
    let f = front_is pool.part pool.most pool.slots memory first others tidy.slots tidy.tables is in
    ap (λ frame. second_walk (machine_memory memory) mxr folded_shape frame address access) (sym f.root_is)
    ∙ lacks f.space memory mxr address access f.tidy (subst (λ part. LieIn (in_blocks part.blocks) (length memory)) (sym f.part_is) lies)
    (ap (λ entries. second_by entries mxr address access) f.entries_are ∙ none)

pub front_in_ram : FrontGivesRam
front_in_ram pool memory first others mxr address place access tidy is some =
    let f = front_is pool.part pool.most pool.slots memory first others tidy.slots tidy.tables is in
    subst (λ part. ((nat_le ram_base place && nat_lt place (ram_base + length part.blocks * block_size)) ≡ true) × (place % 4096 ≡ address % 4096)) f.part_is
    (in_ram f.space memory mxr address place access f.tidy (ap (λ entries. second_by entries mxr address access) f.entries_are ∙ some))

-- its entries are of guest physical addresses
pub front_far : FarIsNotOnDevice
unfolding device_by_entries
front_far pool memory mxr address access tidy far = by (spaces_in pool.slots) refl
  where
    by : (spaces : List Space) → spaces_in pool.slots ≡ spaces → device_by mxr access (entry_at (address / 4096) (front (spaces_in pool.slots))) ≡ false
    by [] is = ap (λ spaces. device_by mxr access (entry_at (address / 4096) (front spaces))) is
    by (first ∷ others) is =
        let f = front_is pool.part pool.most pool.slots memory first others tidy.slots tidy.tables is in
        ap (λ spaces. device_by mxr access (entry_at (address / 4096) (front spaces))) is
        ∙ ap (λ entries. device_by mxr access (entry_at (address / 4096) entries)) (sym f.entries_are)
        ∙ ap (device_by mxr access) (no_entry f.space memory (tidy_parts f.space memory f.tidy) address (ltb-false address (2 ^ guest_bits) far))

-- it is entered once more
once_more : (part : Layout) (most : ℕ) (slots : List Slot) (first : Space) (others : List Space) → AreSlots part most slots → spaces_in slots ≡ first ∷ others → entered (length slots) first.key (spaces_in slots) ≡ spaces_in slots
once_more part most [] first others are is = let some = are.some in absurd (omega (arith, some))
once_more part most (slot ∷ slots) first others are is =
    let key = (first_is slot (spaces_in slots) first others (λ none. all_spare slots (λ k d h. (pairs_first ComesBefore slot slots are.order k d h).spare none)) is).0 in
    sym (entered_found first.key (slot ∷ slots) 0 slot (omega arith) (has_of first.key slot key) are.order)

pub again : FrontIsEnteredAgain
again pool memory first others tidy is = once_more pool.part pool.most pool.slots first others tidy.slots is
