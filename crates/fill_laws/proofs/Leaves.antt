-- An entry of now is one that a space can be filled with.
use Rattle.std.specs.Prelude.{Result, Ok, Err, ◌==◌, ◌&&◌, ◌||◌, not, nat_le}
use Rattle.std.proofs.Common.{cond, ◌≡◌, ℕ, zero, suc, ◌+◌, ◌*◌, ◌/◌, ◌^◌, ◌<◌, ◌≤◌, inl, inr, Bool, true, false, List, [], length, Some, refl, ap, arith}
use Rattle.std.proofs.lemmas.Bool.{and_parts, eqb-true, leb-true, ltb-true}
use Rattle.arch_defs.specs.declared.cached.Entry.{Entry}
use Rattle.arch_defs.specs.declared.modes.Access.{Access}
use Rattle.arch_defs.specs.declared.modes.Trap.{Trap}
use Rattle.arch_defs.specs.declared.registers.Csrs.{Csrs}
use Rattle.arch_defs.specs.declared.roots.GuestMode.{GuestMode}
use Rattle.arch_defs.specs.declared.roots.GuestMode.TheVariants.{Sv39x4, Sv48x4}
use Rattle.arch_defs.specs.declared.roots.GuestRoot.{GuestRoot}
use Rattle.arch_defs.specs.declared.roots.GuestRoot.TheVariants as root
use Rattle.arch_defs.specs.declared.walks.LeafPte.{LeafPte}
use Rattle.arch_defs.specs.declared.walks.Next.{Next}
use Rattle.arch_defs.specs.declared.walks.Next.TheVariants.{Ends, Below}
use Rattle.arch_defs.specs.declared.walks.Shape.{Shape}
use Rattle.arch_defs.specs.declared.walks.Pte.{Pte}
use Rattle.arch_defs.specs.declared.walks.WalkEnd.TheVariants.{PageFault}
use Rattle.arch_defs.proofs.WalkEnds.{same_leaf}
use Rattle.arch_defs.specs.Devices.{device_frame, is_on_device}
use Rattle.arch_defs.specs.Memory.{block_size, ram_base, ram_memory}
use Rattle.arch_defs.specs.Roots.{guest_shape}
use Rattle.arch_defs.specs.SecondStage.{guest_root_frame, has_frame_of, memory_words}
use Rattle.arch_defs.specs.TableEntries.{end_at_leaf, entry_next, is_aligned, is_leaf, is_marked, is_valid, leaf_pte, pte_of}
use Rattle.arch_defs.specs.Walk.{guest_bits, EntryReading, end_of, is_canonical, later, leaf_address, levels, most_level, most_levels, or_else, path, path_from, place_of, read_next, walk}
use Rattle.arch_defs.specs.CachedEntries.{CanFill, IsReachable, guest_page_bits}
use Rattle.arch_defs.specs.WalkedEntries.{entry_by_table, entry_by_walk, entry_under}
use Rattle.fill_laws.specs.GivenEntries.{IsOfTable, page_bits}
use Rattle.fill_laws.specs.Laws.{FillsCanBeMade}
use Rattle.arch_defs.proofs.Shapes.{few_levels}
use Rattle.instruction_laws.proofs.Cached.{IsGiven, given, serves}

-- what holds of each leaf that a walk of that many levels ends at
pub record IsSound (count : ℕ) (leaf : LeafPte) : Type 0 where
  pub level : leaf.level < count
  pub right : (leaf.r || leaf.x) ≡ true
  pub write : leaf.w ≡ true → leaf.r ≡ true
  pub frame : leaf.frame < 2 ^ 44
  pub aligned : is_aligned leaf.level leaf.frame ≡ true

ends_at : (valid is_one fit ends : Bool) (one leaf : LeafPte) (table : ℕ)
    → cond valid (cond is_one (cond fit (Ends (end_at_leaf one)) (Ends PageFault)) (cond ends (Ends PageFault) (Below table))) (Ends PageFault) ≡ Ends (end_at_leaf leaf)
    → (valid ≡ true) × (is_one ≡ true) × (fit ≡ true) × (one ≡ leaf)
ends_at true true true ends one leaf table is = let same = same_leaf one leaf is in (refl, refl, refl, same)
ends_at true true false ends one leaf table is = absurd cc
ends_at true false fit true one leaf table is = absurd cc
ends_at true false fit false one leaf table is = absurd cc
ends_at false is_one fit ends one leaf table is = absurd cc

writes : (v w r z : Bool) → (v && not (w && not r) && z) ≡ true → w ≡ true → r ≡ true
writes true true true z valid is = refl
writes true true false z valid is = absurd cc
writes true false r z valid is = absurd cc
writes false w r z valid is = absurd cc

small_frame : (word : ℕ) → (pte_of word).frame < 2 ^ 44
unfolding pte_of
small_frame word = omega arith

sound_entry : (count level : ℕ) (kind : Access) (e : Pte) (leaf : LeafPte) → level < count → e.frame < 2 ^ 44 → entry_next level kind e ≡ Ends (end_at_leaf leaf) → IsSound count leaf
unfolding entry_next
sound_entry count level kind e leaf low small is =
    let at = ends_at (is_valid e) (is_leaf e) (is_aligned level e.frame && is_marked kind e) (e.a || e.d || e.u || level == 0) (leaf_pte level e) leaf e.frame is in
    rw (← at.3) (record {
      level = low;
      right = at.1;
      write = λ written. writes e.v e.w e.r (e.reserved == 0) at.0 (and_parts e.w e.d written).0;
      frame = small;
      aligned = (and_parts (is_aligned level e.frame) (is_marked kind e) at.2).0;
    })

pub sound_path : (count : ℕ) (reading : EntryReading) (shape : Shape) (va : ℕ) (kind : Access) (leaf : LeafPte) (level table : ℕ) → level ≤ count
    → end_of kind (path_from reading shape va kind level table) ≡ end_at_leaf leaf → IsSound count leaf
unfolding path_from end_of
sound_path count reading shape va kind leaf zero table low is = absurd cc
sound_path count reading shape va kind leaf (suc level) table low is =
    by (place_of shape level table va) (reading (place_of shape level table va)) (λ t. sound_path count reading shape va kind leaf level t (omega arith)) is
  where
    next : (next : Next) → (next ≡ Ends (end_at_leaf leaf) → IsSound count leaf) → ((t : ℕ) → end_of kind (path_from reading shape va kind level t) ≡ end_at_leaf leaf → IsSound count leaf)
        → or_else (end_of kind (later (path_from reading shape va kind level) next)) next ≡ end_at_leaf leaf → IsSound count leaf
    next (Ends end) here deeper is = here (ap Ends is)
    next (Below t) here deeper is = deeper t is

    by : (at : ℕ) (read : Result ℕ Trap) → ((t : ℕ) → end_of kind (path_from reading shape va kind level t) ≡ end_at_leaf leaf → IsSound count leaf)
        → or_else (end_of kind (later (path_from reading shape va kind level) (read_next level at kind read))) (read_next level at kind read) ≡ end_at_leaf leaf → IsSound count leaf
    by at (Ok word) deeper is = next (entry_next level kind (pte_of word)) (sound_entry count level kind (pte_of word) leaf (omega arith) (small_frame word)) deeper is
    by at (Err trap) deeper is = absurd cc

-- the pages that a mode's tables translate
small_page : (mode : GuestMode) (va : ℕ) → is_canonical (guest_shape mode) va ≡ true → va / 4096 < 2 ^ page_bits mode
small_page Sv39x4 va is = let small = ltb-true va (2 ^ 41) is in omega (arith, small)
small_page Sv48x4 va is = let small = ltb-true va (2 ^ guest_bits) is in omega (arith, small)

sound_walk : (reading : EntryReading) (mode : GuestMode) (ppn va : ℕ) (kind : Access) (leaf : LeafPte) → walk reading ppn (guest_shape mode) va kind ≡ end_at_leaf leaf
    → (va / 4096 < 2 ^ page_bits mode) × IsSound (levels (guest_shape mode)) leaf
unfolding walk path end_of
sound_walk reading mode ppn va kind leaf is = by (is_canonical (guest_shape mode) va) refl is
  where
    by : (right : Bool) → is_canonical (guest_shape mode) va ≡ right → end_of kind (cond right (path_from reading (guest_shape mode) va kind (levels (guest_shape mode)) ppn) []) ≡ end_at_leaf leaf
        → (va / 4096 < 2 ^ page_bits mode) × IsSound (levels (guest_shape mode)) leaf
    by true right is = (small_page mode va right, sound_path (levels (guest_shape mode)) reading (guest_shape mode) va kind leaf (levels (guest_shape mode)) ppn (omega arith) is)
    by false right is = absurd cc

-- are among those of any mode
any_page : (mode : GuestMode) (page : ℕ) → page < 2 ^ page_bits mode → page < 2 ^ guest_page_bits
any_page Sv39x4 page is = omega arith
any_page Sv48x4 page is = is

-- and of a frame in RAM, or of that of the device page
reachable : (device : Bool) (ram blocks : List ℕ) (place : ℕ) → length ram ≡ length blocks * block_size → serves device ram place ≡ true → IsReachable blocks (place / 4096)
reachable device ram blocks place size is = by (has_frame_of (ram_memory ram) place) (is_on_device place) refl refl is
  where
    below : (at size other : ℕ) → size ≡ other → at + 4096 ≤ ram_base + size → at < ram_base + other
    below at size other same h = omega arith

    by : (inside on : Bool) → has_frame_of (ram_memory ram) place ≡ inside → is_on_device place ≡ on → (inside || (device && on)) ≡ true → IsReachable blocks (place / 4096)
    by true on in_ram on_page is = let parts = and_parts (nat_le ram_base (place / 4096 * 4096)) (nat_le (place / 4096 * 4096 + 4096) (ram_base + length ram)) in_ram in
        inl (
          leb-true ram_base (place / 4096 * 4096) parts.0,
          below (place / 4096 * 4096) (length ram) (length blocks * block_size) size (leb-true (place / 4096 * 4096 + 4096) (ram_base + length ram) parts.1),
        )
    by false true in_ram on_page is = inr (eqb-true (place / 4096) device_frame on_page)
    by false false in_ram on_page is = let never : false ≡ true = (and_parts device false is).1 in absurd cc

can_fill : (device mxr : Bool) (ram blocks : List ℕ) (mode : GuestMode) (ppn address : ℕ) (kind : Access) (e : Entry) (leaf : LeafPte)
    → length ram ≡ length blocks * block_size → IsGiven device mxr ram (guest_shape mode) ppn address kind e leaf → CanFill blocks e
can_fill device mxr ram blocks mode ppn address kind e leaf size g =
    let sound = sound_walk (memory_words (ram_memory ram)) mode (guest_root_frame ppn) address kind leaf g.walked in
    let one : CanFill blocks (entry_under leaf address) = record {
      page = any_page mode (address / 4096) sound.0;
      frame = reachable device ram blocks (leaf_address leaf address) size g.inside;
      level = low_level leaf.level (levels (guest_shape mode)) sound.1.level (few_levels (guest_shape mode));
      right = sound.1.right;
      write = sound.1.write;
    } in
    rw g.is one
  where
    low_level : (level count : ℕ) → level < count → count ≤ most_levels → level ≤ most_level
    low_level level count under few = omega arith

pub fills_can_be_made : FillsCanBeMade
unfolding entry_by_walk
fills_can_be_made device csrs ram blocks address kind e size found = by csrs.hgatp found
  where
    by : (hgatp : GuestRoot) → entry_by_table device csrs.hs.status.mxr ram address kind hgatp ≡ Some e → CanFill blocks e
    by root.Bare is = absurd cc
    by (root.Table mode vmid ppn) is = let g = given device csrs.hs.status.mxr ram (guest_shape mode) ppn address kind e is in
        can_fill device csrs.hs.status.mxr ram blocks mode ppn address kind e g.0 size g.1

-- and one that the table of its walk can give
pub of_table : (device : Bool) (csrs : Csrs) (ram : List ℕ) (address : ℕ) (kind : Access) (e : Entry) → entry_by_walk device csrs ram address kind ≡ Some e → IsOfTable csrs.hgatp e
unfolding entry_by_walk
of_table device csrs ram address kind e found = by csrs.hgatp found
  where
    by : (hgatp : GuestRoot) → entry_by_table device csrs.hs.status.mxr ram address kind hgatp ≡ Some e → IsOfTable hgatp e
    by root.Bare is = absurd cc
    by (root.Table mode vmid ppn) is = let g = given device csrs.hs.status.mxr ram (guest_shape mode) ppn address kind e is in
        let sound = sound_walk (memory_words (ram_memory ram)) mode (guest_root_frame ppn) address kind g.0 g.1.walked in
        rw g.1.is (sound.0, sound.1.level)
