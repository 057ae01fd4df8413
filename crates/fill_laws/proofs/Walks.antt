-- The entry of a page, as registers and memory are: it is one and the same for each access to the page that
-- it permits.
use Rattle.std.specs.Prelude.{Result, Ok, Err, ◌&&◌, ◌||◌, not, nat_le, length}
use Rattle.std.proofs.Common.{cond, ◌≡◌, ℕ, zero, suc, ◌+◌, ◌*◌, ◌/◌, ◌%◌, ◌^◌, ◌∙◌, Bool, true, false, List, [], Option, Some, None, refl, ap, sym, arith}
use Rattle.std.proofs.lemmas.Bool.{and_from, and_parts, leb-true}
use Rattle.std.proofs.Math.Pow.{mod-mod-pow}
use Rattle.arch_defs.specs.declared.cached.Entry.{Entry}
use Rattle.arch_defs.specs.declared.second_walks.SecondWalkEnd.{SecondWalkEnd}
use Rattle.arch_defs.specs.declared.second_walks.SecondWalkEnd.TheVariants.{GuestPageFault, AccessFault}
use Rattle.arch_defs.specs.declared.second_walks.SecondWalkEnd.TheVariants as guest
use Rattle.arch_defs.specs.declared.modes.Access.{Access}
use Rattle.arch_defs.specs.declared.modes.Access.TheVariants.{Fetch, Load, Store, ExecLoad, Implicit}
use Rattle.arch_defs.specs.declared.modes.Trap.{Trap}
use Rattle.arch_defs.specs.declared.registers.Csrs.{Csrs}
use Rattle.arch_defs.specs.declared.roots.GuestRoot.{GuestRoot}
use Rattle.arch_defs.specs.declared.roots.GuestRoot.TheVariants as root
use Rattle.arch_defs.specs.declared.walks.LeafPte.{LeafPte}
use Rattle.arch_defs.specs.declared.walks.Next.{Next}
use Rattle.arch_defs.specs.declared.walks.Next.TheVariants.{Ends, Below}
use Rattle.arch_defs.specs.declared.walks.Shape.{Shape}
use Rattle.arch_defs.specs.declared.walks.Pte.{Pte}
use Rattle.arch_defs.specs.declared.walks.WalkEnd.{WalkEnd}
use Rattle.arch_defs.specs.declared.walks.WalkEnd.TheVariants.{Leaf, PageFault, FetchEnd}
use Rattle.arch_defs.proofs.WalkEnds.{same_leaf}
use Rattle.arch_defs.specs.Devices.{is_on_device}
use Rattle.arch_defs.specs.Memory.{Memory, ram_memory}
use Rattle.arch_defs.specs.Permits.{has_right, permits_second}
use Rattle.arch_defs.specs.Roots.{guest_shape, is_table}
use Rattle.arch_defs.specs.SecondStage.{device_under, guest_root_frame, has_frame_of, is_device_end, memory_words, place_under, second_end, second_under, second_walk}
use Rattle.arch_defs.specs.Traps.{is_virtual}
use Rattle.arch_defs.specs.TableEntries.{end_at_leaf, entry_next, is_aligned, is_leaf, is_marked, is_valid, leaf_pte, leaf_with, needs_dirty, pointer_next, pte_of}
use Rattle.arch_defs.specs.Walk.{EntryReading, end_of, is_canonical, later, leaf_address, levels, or_else, path, path_from, place_of, read_next, walk}
use Rattle.arch_defs.specs.CachedEntries.{device_by, is_device, leaf_of, place_by}
use Rattle.arch_defs.specs.WalkedEntries.{entry_by_end, entry_by_table, entry_by_walk, entry_under}
use Rattle.instruction_laws.proofs.Cached.{IsGiven, given, place_given}
use Rattle.fill_laws.specs.Laws.{FillsAreDevices, FillsAreWalks, FillsServeTheDevice, FillsServeThePage, PageHasOneEntry}
use Rattle.arch_defs.proofs.SamePages.{frame_same, walks_same}

-- what another kind of access needs of a leaf
abbrev Suits : Access → LeafPte → Type 0
Suits other leaf = needs_dirty other ≡ true → leaf.w ≡ true

-- a leaf for one kind of access is the leaf for another that it suits
leaf_by : (valid is_one fit fit' : Bool) (one leaf : LeafPte) (else' : Next) → (fit ≡ true → one ≡ leaf → fit' ≡ true)
    → cond valid (cond is_one (cond fit (Ends (end_at_leaf one)) (Ends PageFault)) else') (Ends PageFault) ≡ Ends (end_at_leaf leaf)
    → cond valid (cond is_one (cond fit' (Ends (end_at_leaf one)) (Ends PageFault)) else') (Ends PageFault) ≡ Ends (end_at_leaf leaf)
leaf_by true true true fit' one leaf else' then e = let same = same_leaf one leaf e in rw (then refl same) e
leaf_by true true false fit' one leaf else' then e = absurd cc
leaf_by true false fit fit' one leaf else' then e = e
leaf_by false is_one fit fit' one leaf else' then e = absurd cc

below_by : (valid is_one fit fit' : Bool) (one : LeafPte) (else' : Next) (table : ℕ)
    → cond valid (cond is_one (cond fit (Ends (end_at_leaf one)) (Ends PageFault)) else') (Ends PageFault) ≡ Below table
    → cond valid (cond is_one (cond fit' (Ends (end_at_leaf one)) (Ends PageFault)) else') (Ends PageFault) ≡ Below table
below_by true true true fit' one else' table e = absurd cc
below_by true true false fit' one else' table e = absurd cc
below_by true false fit fit' one else' table e = e
below_by false is_one fit fit' one else' table e = absurd cc

fits : (aligned a d needs needs' : Bool) → (needs' ≡ true → d ≡ true) → (aligned && (a && (not needs || d))) ≡ true → (aligned && (a && (not needs' || d))) ≡ true
fits true true d needs false marked e = refl
fits true true d needs true marked e = marked refl
fits true false d needs needs' marked e = absurd cc
fits false a d needs needs' marked e = absurd cc

marked_by : (level : ℕ) (other : Access) (e : Pte) (leaf : LeafPte) → Suits other leaf → leaf_pte level e ≡ leaf → needs_dirty other ≡ true → e.d ≡ true
marked_by level other e leaf suits is needs = let written : (e.w && e.d) ≡ true = ap (λ (l : LeafPte). l.w) is ∙ suits needs in (and_parts e.w e.d written).1

leaf_suits : (level : ℕ) (kind other : Access) (e : Pte) (leaf : LeafPte) → Suits other leaf
    → entry_next level kind e ≡ Ends (end_at_leaf leaf) → entry_next level other e ≡ Ends (end_at_leaf leaf)
unfolding entry_next
leaf_suits level kind other e leaf suits is = leaf_by (is_valid e) (is_leaf e) (is_aligned level e.frame && is_marked kind e) (is_aligned level e.frame && is_marked other e)
    (leaf_pte level e) leaf (pointer_next level e)
    (λ fit same. fits (is_aligned level e.frame) e.a e.d (needs_dirty kind) (needs_dirty other) (marked_by level other e leaf suits same) fit) is

below_suits : (level : ℕ) (kind other : Access) (e : Pte) (table : ℕ) → entry_next level kind e ≡ Below table → entry_next level other e ≡ Below table
unfolding entry_next
below_suits level kind other e table is = below_by (is_valid e) (is_leaf e) (is_aligned level e.frame && is_marked kind e) (is_aligned level e.frame && is_marked other e)
    (leaf_pte level e) (pointer_next level e) table is

-- and so of the walks
paths_suit : (reading : EntryReading) (shape : Shape) (va : ℕ) (kind other : Access) (leaf : LeafPte) → Suits other leaf → (level table : ℕ)
    → end_of kind (path_from reading shape va kind level table) ≡ end_at_leaf leaf → end_of other (path_from reading shape va other level table) ≡ end_at_leaf leaf
unfolding path_from end_of
paths_suit reading shape va kind other leaf suits zero table e = absurd cc
paths_suit reading shape va kind other leaf suits (suc level) table e =
    by (place_of shape level table va) (reading (place_of shape level table va)) (λ t. paths_suit reading shape va kind other leaf suits level t) e
  where
    next : (next next' : Next) → (next ≡ Ends (end_at_leaf leaf) → next' ≡ Ends (end_at_leaf leaf)) → ((t : ℕ) → next ≡ Below t → next' ≡ Below t)
        → ((t : ℕ) → end_of kind (path_from reading shape va kind level t) ≡ end_at_leaf leaf → end_of other (path_from reading shape va other level t) ≡ end_at_leaf leaf)
        → or_else (end_of kind (later (path_from reading shape va kind level) next)) next ≡ end_at_leaf leaf
        → or_else (end_of other (later (path_from reading shape va other level) next')) next' ≡ end_at_leaf leaf
    next (Ends end) next' ends below deeper is = rw (ends (ap Ends is)) refl
    next (Below t) next' ends below deeper is = rw (below t refl) (deeper t is)

    by : (at : ℕ) (read : Result ℕ Trap)
        → ((t : ℕ) → end_of kind (path_from reading shape va kind level t) ≡ end_at_leaf leaf → end_of other (path_from reading shape va other level t) ≡ end_at_leaf leaf)
        → or_else (end_of kind (later (path_from reading shape va kind level) (read_next level at kind read))) (read_next level at kind read) ≡ end_at_leaf leaf
        → or_else (end_of other (later (path_from reading shape va other level) (read_next level at other read))) (read_next level at other read) ≡ end_at_leaf leaf
    by at (Ok word) deeper is = next (entry_next level kind (pte_of word)) (entry_next level other (pte_of word))
        (leaf_suits level kind other (pte_of word) leaf suits) (below_suits level kind other (pte_of word)) deeper is
    by at (Err trap) deeper is = absurd cc

walks_suit : (reading : EntryReading) (page : ℕ) (shape : Shape) (va : ℕ) (kind other : Access) (leaf : LeafPte) → Suits other leaf
    → walk reading page shape va kind ≡ end_at_leaf leaf → walk reading page shape va other ≡ end_at_leaf leaf
unfolding walk path end_of
walks_suit reading page shape va kind other leaf suits e = by (is_canonical shape va) e
  where
    by : (right : Bool) → end_of kind (cond right (path_from reading shape va kind (levels shape) page) []) ≡ end_at_leaf leaf
        → end_of other (cond right (path_from reading shape va other (levels shape) page) []) ≡ end_at_leaf leaf
    by true is = paths_suit reading shape va kind other leaf suits (levels shape) page is
    by false is = absurd cc

entry_same : (leaf : LeafPte) (a b : ℕ) → a / 4096 ≡ b / 4096 → entry_under leaf a ≡ entry_under leaf b
entry_same leaf a b same = rw (same, frame_same leaf a b same) refl

guest_same : (memory : Memory) (mxr : Bool) (shape : Shape) (ppn a b : ℕ) (kind : Access) → a / 4096 ≡ b / 4096
    → second_walk memory mxr shape ppn a kind ≡ second_walk memory mxr shape ppn b kind
unfolding second_walk
guest_same memory mxr shape ppn a b kind same = rw (walks_same (memory_words memory) shape (guest_root_frame ppn) kind a b same)
    (by (walk (memory_words memory) (guest_root_frame ppn) shape b kind))
  where
    by : (end : WalkEnd) → second_end memory mxr a kind end ≡ second_end memory mxr b kind end
    by (Leaf frame level r w x u) = let leaf = leaf_with frame level r w x u in rw (frame_same leaf a b same) refl
    by PageFault = refl
    by (FetchEnd place trap) = refl

pub now_same : (device : Bool) (csrs : Csrs) (ram : List ℕ) (a b : ℕ) (kind : Access) → a / 4096 ≡ b / 4096
    → entry_by_walk device csrs ram a kind ≡ entry_by_walk device csrs ram b kind
unfolding entry_by_walk
now_same device csrs ram a b kind same = by csrs.hgatp
  where
    by_end : (end : SecondWalkEnd) → entry_by_end device a end ≡ entry_by_end device b end
    by_end (guest.Leaf leaf) = ap Some (entry_same leaf a b same)
    by_end (guest.Device leaf) = ap (λ e. cond device (Some e) None) (entry_same leaf a b same)
    by_end GuestPageFault = refl
    by_end AccessFault = refl

    by : (hgatp : GuestRoot) → entry_by_table device csrs.hs.status.mxr ram a kind hgatp ≡ entry_by_table device csrs.hs.status.mxr ram b kind hgatp
    by root.Bare = refl
    by (root.Table mode vmid ppn) = rw (guest_same (ram_memory ram) csrs.hs.status.mxr (guest_shape mode) ppn a b kind same)
        (by_end (second_walk (ram_memory ram) csrs.hs.status.mxr (guest_shape mode) ppn b kind))

back : (device mxr : Bool) (ram : List ℕ) (shape : Shape) (ppn address : ℕ) (kind : Access) (e : Entry) (leaf : LeafPte)
    → IsGiven device mxr ram shape ppn address kind e leaf → entry_by_end device address (second_walk (ram_memory ram) mxr shape ppn address kind) ≡ Some e
unfolding second_walk
back device mxr ram shape ppn address kind e leaf g = rw (g.walked, g.permits, g.is)
    (by device (has_frame_of (ram_memory ram) (leaf_address leaf address)) (is_on_device (leaf_address leaf address)) g.inside)
  where
    by : (has inside on : Bool) → (inside || (has && on)) ≡ true
        → entry_by_end has address (cond inside (guest.Leaf leaf) (cond on (guest.Device leaf) AccessFault)) ≡ Some (entry_under leaf address)
    by has true on is = refl
    by true false true is = refl
    by true false false is = absurd cc
    by false false on is = absurd cc

-- what the second stage permits of a leaf, and of the entry under it
right_of : (mxr : Bool) (kind : Access) (leaf : LeafPte) → permits_second mxr kind leaf ≡ true → (leaf.u ≡ true) × (has_right mxr kind leaf ≡ true)
unfolding permits_second
right_of mxr kind leaf permits = and_parts leaf.u (has_right mxr kind leaf) permits

right_same : (mxr : Bool) (kind : Access) (leaf : LeafPte) (address : ℕ) → has_right mxr kind (leaf_of (entry_under leaf address)) ≡ has_right mxr kind leaf
right_same mxr Fetch leaf address = refl
right_same mxr Load leaf address = refl
right_same mxr Store leaf address = refl
right_same mxr ExecLoad leaf address = refl
right_same mxr Implicit leaf address = refl

right_suits : (mxr : Bool) (kind : Access) (leaf : LeafPte) → has_right mxr kind leaf ≡ true → Suits kind leaf
right_suits mxr Fetch leaf right needs = absurd cc
right_suits mxr Load leaf right needs = absurd cc
right_suits mxr Store leaf right needs = right
right_suits mxr ExecLoad leaf right needs = absurd cc
right_suits mxr Implicit leaf right needs = absurd cc

permits_entry : (mxr : Bool) (kind : Access) (leaf : LeafPte) (address : ℕ) → permits_second mxr kind leaf ≡ true → permits_second mxr kind (leaf_of (entry_under leaf address)) ≡ true
unfolding permits_second
permits_entry mxr kind leaf address permits = right_same mxr kind leaf address ∙ (right_of mxr kind leaf permits).1

permits_leaf : (mxr : Bool) (kind : Access) (leaf : LeafPte) (address : ℕ) → leaf.u ≡ true → permits_second mxr kind (leaf_of (entry_under leaf address)) ≡ true
    → (has_right mxr kind leaf ≡ true) × (permits_second mxr kind leaf ≡ true)
unfolding permits_second
permits_leaf mxr kind leaf address user permits = let right : has_right mxr kind leaf ≡ true = sym (right_same mxr kind leaf address) ∙ permits in (right, and_from leaf.u (has_right mxr kind leaf) user right)

-- an entry of now is of the address's page, permits the access, and is the entry of now for each other access that it permits
pub now_page : (device : Bool) (csrs : Csrs) (ram : List ℕ) (address : ℕ) (kind : Access) (e : Entry) → entry_by_walk device csrs ram address kind ≡ Some e → e.page ≡ address / 4096
unfolding entry_by_walk
now_page device csrs ram address kind e found = by csrs.hgatp found
  where
    by : (hgatp : GuestRoot) → entry_by_table device csrs.hs.status.mxr ram address kind hgatp ≡ Some e → e.page ≡ address / 4096
    by root.Bare is = absurd cc
    by (root.Table mode vmid ppn) is = let g = given device csrs.hs.status.mxr ram (guest_shape mode) ppn address kind e is in ap (λ (e : Entry). e.page) g.1.is

pub now_permits : (device : Bool) (csrs : Csrs) (ram : List ℕ) (address : ℕ) (kind : Access) (e : Entry) → entry_by_walk device csrs ram address kind ≡ Some e
    → permits_second csrs.hs.status.mxr kind (leaf_of e) ≡ true
unfolding entry_by_walk
now_permits device csrs ram address kind e found = by csrs.hgatp found
  where
    by : (hgatp : GuestRoot) → entry_by_table device csrs.hs.status.mxr ram address kind hgatp ≡ Some e → permits_second csrs.hs.status.mxr kind (leaf_of e) ≡ true
    by root.Bare is = absurd cc
    by (root.Table mode vmid ppn) is = let g = given device csrs.hs.status.mxr ram (guest_shape mode) ppn address kind e is in
        rw g.1.is (permits_entry csrs.hs.status.mxr kind g.0 address g.1.permits)

pub now_for : (device : Bool) (csrs : Csrs) (ram : List ℕ) (address : ℕ) (kind other : Access) (e : Entry) → entry_by_walk device csrs ram address kind ≡ Some e
    → permits_second csrs.hs.status.mxr other (leaf_of e) ≡ true → entry_by_walk device csrs ram address other ≡ Some e
unfolding entry_by_walk
now_for device csrs ram address kind other e found permits = by csrs.hgatp found
  where
    by : (hgatp : GuestRoot) → entry_by_table device csrs.hs.status.mxr ram address kind hgatp ≡ Some e → entry_by_table device csrs.hs.status.mxr ram address other hgatp ≡ Some e
    by root.Bare is = absurd cc
    by (root.Table mode vmid ppn) is = let mxr : Bool = csrs.hs.status.mxr in
        let g = given device mxr ram (guest_shape mode) ppn address kind e is in
        let leaf : LeafPte = g.0 in
        let entry_permits : permits_second mxr other (leaf_of (entry_under leaf address)) ≡ true = rw g.1.is at permits in
        let permitted = permits_leaf mxr other leaf address (right_of mxr kind leaf g.1.permits).0 entry_permits in
        back device mxr ram (guest_shape mode) ppn address other e leaf (record {
          walked = walks_suit (memory_words (ram_memory ram)) (guest_root_frame ppn) (guest_shape mode) address kind other leaf (right_suits mxr other leaf permitted.0) g.1.walked;
          permits = permitted.1;
          inside = g.1.inside;
          is = g.1.is;
        })

-- two entries of now for one page are the same
pub now_one : (device : Bool) (csrs : Csrs) (ram : List ℕ) (address : ℕ) (kind other : Access) (e e' : Entry)
    → entry_by_walk device csrs ram address kind ≡ Some e → entry_by_walk device csrs ram address other ≡ Some e' → e ≡ e'
unfolding entry_by_walk
now_one device csrs ram address kind other e e' found found' = by csrs.hgatp found found'
  where
    by : (hgatp : GuestRoot) → entry_by_table device csrs.hs.status.mxr ram address kind hgatp ≡ Some e → entry_by_table device csrs.hs.status.mxr ram address other hgatp ≡ Some e' → e ≡ e'
    by root.Bare is is' = absurd cc
    by (root.Table mode vmid ppn) is is' = let mxr : Bool = csrs.hs.status.mxr in
        let g = given device mxr ram (guest_shape mode) ppn address kind e is in
        let g' = given device mxr ram (guest_shape mode) ppn address other e' is' in
        let loads : Suits Load g.0 = λ needs. absurd cc in
        let loads' : Suits Load g'.0 = λ needs. absurd cc in
        let to_load = walks_suit (memory_words (ram_memory ram)) (guest_root_frame ppn) (guest_shape mode) address kind Load g.0 loads g.1.walked in
        let to_load' = walks_suit (memory_words (ram_memory ram)) (guest_root_frame ppn) (guest_shape mode) address other Load g'.0 loads' g'.1.walked in
        let same = same_leaf g.0 g'.0 (ap Ends (sym to_load ∙ to_load')) in
        g.1.is ∙ ap (λ (leaf : LeafPte). entry_under leaf address) same ∙ sym g'.1.is

-- and it gives the place that the walk gives
leaf_keeps : (leaf : LeafPte) (address : ℕ) → leaf_address leaf address % 4096 ≡ address % 4096
leaf_keeps leaf address = let turned : 12 + 9 * leaf.level ≡ 9 * leaf.level + 12 = omega arith in
    added leaf.frame (address % 2 ^ (12 + 9 * leaf.level)) address (rw turned (mod-mod-pow address (9 * leaf.level) 12))
  where
    added : (frame part va : ℕ) → part % 4096 ≡ va % 4096 → (4096 * frame + part) % 4096 ≡ va % 4096
    added frame part va same = omega arith

whole : (place address : ℕ) → place % 4096 ≡ address % 4096 → 4096 * (place / 4096) + address % 4096 ≡ place
whole place address same = omega arith

-- a frame in RAM is not that of the device page
ram_is_off : (ram : List ℕ) (place : ℕ) → has_frame_of (ram_memory ram) place ≡ true → is_on_device place ≡ false
ram_is_off ram place inside =
    let parts = and_parts (nat_le 2147483648 (place / 4096 * 4096)) (nat_le (place / 4096 * 4096 + 4096) (2147483648 + length ram)) inside in
    let low = leb-true 2147483648 (place / 4096 * 4096) parts.0 in grind arith

place_of_entry : (mxr : Bool) (ram : List ℕ) (kind : Access) (leaf : LeafPte) (address : ℕ) → permits_second mxr kind leaf ≡ true
    → has_frame_of (ram_memory ram) (leaf_address leaf address) ≡ true → place_by mxr address kind (Some (entry_under leaf address)) ≡ Some (leaf_address leaf address)
place_of_entry mxr ram kind leaf address permits inside =
    place_given mxr address kind (entry_under leaf address) (permits_entry mxr kind leaf address permits) (ram_is_off ram (leaf_address leaf address) inside)
    ∙ ap Some (whole (leaf_address leaf address) address (leaf_keeps leaf address))

-- an entry of the device page gives none
no_place_on : (mxr : Bool) (address : ℕ) (kind : Access) (e : Entry) → is_device e ≡ true → place_by mxr address kind (Some e) ≡ None
no_place_on mxr address kind e on = ap (λ b. cond (permits_second mxr kind (leaf_of e) && not b) (Some (leaf_address (leaf_of e) address)) None) on ∙ by (permits_second mxr kind (leaf_of e))
  where
    by : (permits : Bool) → cond (permits && false) (Some (leaf_address (leaf_of e) address)) None ≡ None
    by true = refl
    by false = refl

-- the end of a walk at a leaf that permits the access
abbrev end_at : List ℕ → ℕ → LeafPte → SecondWalkEnd
end_at ram address leaf = cond (has_frame_of (ram_memory ram) (leaf_address leaf address)) (guest.Leaf leaf)
    (cond (is_on_device (leaf_address leaf address)) (guest.Device leaf) AccessFault)

place_at_leaf : (device mxr : Bool) (ram : List ℕ) (kind : Access) (leaf : LeafPte) (address : ℕ) → permits_second mxr kind leaf ≡ true
    → place_by mxr address kind (entry_by_end device address (end_at ram address leaf)) ≡ place_under address (end_at ram address leaf)
place_at_leaf device mxr ram kind leaf address permits = by (has_frame_of (ram_memory ram) (leaf_address leaf address)) (is_on_device (leaf_address leaf address)) device refl refl
  where
    by : (inside on has : Bool) → has_frame_of (ram_memory ram) (leaf_address leaf address) ≡ inside → is_on_device (leaf_address leaf address) ≡ on
        → place_by mxr address kind (entry_by_end has address (cond inside (guest.Leaf leaf) (cond on (guest.Device leaf) AccessFault)))
        ≡ place_under address (cond inside (guest.Leaf leaf) (cond on (guest.Device leaf) AccessFault))
    by true on has in_ram on_page = place_of_entry mxr ram kind leaf address permits in_ram
    by false true true in_ram on_page = no_place_on mxr address kind (entry_under leaf address) on_page
    by false true false in_ram on_page = refl
    by false false has in_ram on_page = refl

place_walked : (device mxr : Bool) (ram : List ℕ) (shape : Shape) (ppn address : ℕ) (kind : Access)
    → place_by mxr address kind (entry_by_end device address (second_walk (ram_memory ram) mxr shape ppn address kind))
    ≡ place_under address (second_walk (ram_memory ram) mxr shape ppn address kind)
unfolding second_walk
place_walked device mxr ram shape ppn address kind = by (walk (memory_words (ram_memory ram)) (guest_root_frame ppn) shape address kind)
  where
    at : (leaf : LeafPte) (permits : Bool) → permits_second mxr kind leaf ≡ permits
        → place_by mxr address kind (entry_by_end device address (cond (not permits) GuestPageFault (end_at ram address leaf)))
        ≡ place_under address (cond (not permits) GuestPageFault (end_at ram address leaf))
    at leaf true permitted = place_at_leaf device mxr ram kind leaf address permitted
    at leaf false permitted = refl

    by : (end : WalkEnd) → place_by mxr address kind (entry_by_end device address (second_end (ram_memory ram) mxr address kind end))
        ≡ place_under address (second_end (ram_memory ram) mxr address kind end)
    by (Leaf frame level r w x u) = let leaf = leaf_with frame level r w x u in at leaf (permits_second mxr kind leaf) refl
    by PageFault = refl
    by (FetchEnd place trap) = refl

pub fills_are_walks : FillsAreWalks
unfolding entry_by_walk
fills_are_walks device virt ram address kind folding = by virt.csrs.hgatp (is_virtual virt.mode) folding
  where
    by : (hgatp : GuestRoot) (virtual : Bool) → (virtual && is_table hgatp) ≡ true
        → place_by virt.csrs.hs.status.mxr address kind (entry_by_table device virt.csrs.hs.status.mxr ram address kind hgatp)
        ≡ second_under (ram_memory ram) virt.csrs.hs.status.mxr (cond virtual hgatp root.Bare) address kind
    by (root.Table mode vmid ppn) true is = place_walked device virt.csrs.hs.status.mxr ram (guest_shape mode) ppn address kind
    by (root.Table mode vmid ppn) false is = absurd cc
    by root.Bare true is = absurd cc
    by root.Bare false is = absurd cc

-- and has it on the device page where the walk does
device_at_leaf : (mxr : Bool) (ram : List ℕ) (kind : Access) (leaf : LeafPte) (address : ℕ) → permits_second mxr kind leaf ≡ true
    → device_by mxr kind (entry_by_end true address (end_at ram address leaf)) ≡ is_device_end (end_at ram address leaf)
device_at_leaf mxr ram kind leaf address permits = by (has_frame_of (ram_memory ram) (leaf_address leaf address)) (is_on_device (leaf_address leaf address)) refl refl
  where
    permitted : permits_second mxr kind (leaf_of (entry_under leaf address)) ≡ true
    permitted = permits_entry mxr kind leaf address permits

    by : (inside on : Bool) → has_frame_of (ram_memory ram) (leaf_address leaf address) ≡ inside → is_on_device (leaf_address leaf address) ≡ on
        → device_by mxr kind (entry_by_end true address (cond inside (guest.Leaf leaf) (cond on (guest.Device leaf) AccessFault)))
        ≡ is_device_end (cond inside (guest.Leaf leaf) (cond on (guest.Device leaf) AccessFault))
    by true on in_ram on_page = ap (λ b. b && is_device (entry_under leaf address)) permitted ∙ ram_is_off ram (leaf_address leaf address) in_ram
    by false true in_ram on_page = and_from (permits_second mxr kind (leaf_of (entry_under leaf address))) (is_device (entry_under leaf address)) permitted on_page
    by false false in_ram on_page = refl

device_walked : (mxr : Bool) (ram : List ℕ) (shape : Shape) (ppn address : ℕ) (kind : Access)
    → device_by mxr kind (entry_by_end true address (second_walk (ram_memory ram) mxr shape ppn address kind))
    ≡ is_device_end (second_walk (ram_memory ram) mxr shape ppn address kind)
unfolding second_walk
device_walked mxr ram shape ppn address kind = by (walk (memory_words (ram_memory ram)) (guest_root_frame ppn) shape address kind)
  where
    at : (leaf : LeafPte) (permits : Bool) → permits_second mxr kind leaf ≡ permits
        → device_by mxr kind (entry_by_end true address (cond (not permits) GuestPageFault (end_at ram address leaf)))
        ≡ is_device_end (cond (not permits) GuestPageFault (end_at ram address leaf))
    at leaf true permitted = device_at_leaf mxr ram kind leaf address permitted
    at leaf false permitted = refl

    by : (end : WalkEnd) → device_by mxr kind (entry_by_end true address (second_end (ram_memory ram) mxr address kind end))
        ≡ is_device_end (second_end (ram_memory ram) mxr address kind end)
    by (Leaf frame level r w x u) = let leaf = leaf_with frame level r w x u in at leaf (permits_second mxr kind leaf) refl
    by PageFault = refl
    by (FetchEnd place trap) = refl

pub fills_are_devices : FillsAreDevices
unfolding entry_by_walk
fills_are_devices false virt ram address kind folding = refl
fills_are_devices true virt ram address kind folding = by virt.csrs.hgatp (is_virtual virt.mode) folding
  where
    by : (hgatp : GuestRoot) (virtual : Bool) → (virtual && is_table hgatp) ≡ true
        → device_by virt.csrs.hs.status.mxr kind (entry_by_table true virt.csrs.hs.status.mxr ram address kind hgatp)
        ≡ device_under (ram_memory ram) virt.csrs.hs.status.mxr (cond virtual hgatp root.Bare) address kind
    by (root.Table mode vmid ppn) true is = device_walked virt.csrs.hs.status.mxr ram (guest_shape mode) ppn address kind
    by (root.Table mode vmid ppn) false is = absurd cc
    by root.Bare true is = absurd cc
    by root.Bare false is = absurd cc

-- for each access to the page
pub page_has_one_entry : PageHasOneEntry
page_has_one_entry device csrs ram address other kind page = now_same device csrs ram other address kind page

-- what an entry of now answers to an access to its page, the entry of now for that access answers
answers_alike : {A : Type 0} (device : Bool) (csrs : Csrs) (ram : List ℕ) (address other : ℕ) (kind other_kind : Access) (e : Entry)
    → entry_by_walk device csrs ram address kind ≡ Some e → other / 4096 ≡ address / 4096
    → (answer : Option Entry → A) → (permits_second csrs.hs.status.mxr other_kind (leaf_of e) ≡ false → answer (Some e) ≡ answer None)
    → answer (Some e) ≡ answer (entry_by_walk device csrs ram other other_kind)
answers_alike device csrs ram address other kind other_kind e found page answer refused = by (entry_by_walk device csrs ram other other_kind) refl
  where
    here : entry_by_walk device csrs ram other kind ≡ Some e
    here = now_same device csrs ram other address kind page ∙ found

    none : (permits : Bool) → permits_second csrs.hs.status.mxr other_kind (leaf_of e) ≡ permits → entry_by_walk device csrs ram other other_kind ≡ None
        → answer (Some e) ≡ answer None
    none true permitted absent = let also = now_for device csrs ram other kind other_kind e here permitted in absurd cc
    none false permitted absent = refused permitted

    by : (there : Option Entry) → entry_by_walk device csrs ram other other_kind ≡ there → answer (Some e) ≡ answer (entry_by_walk device csrs ram other other_kind)
    by (Some x) is = let one : e ≡ x = now_one device csrs ram other kind other_kind e x here is in ap answer (ap Some one ∙ sym is)
    by None is = none (permits_second csrs.hs.status.mxr other_kind (leaf_of e)) refl is ∙ ap answer (sym is)

pub fills_serve_the_page : FillsServeThePage
fills_serve_the_page device virt ram address other kind other_kind e folding found page =
    answers_alike device virt.csrs ram address other kind other_kind e found page (place_by virt.csrs.hs.status.mxr other other_kind)
    (λ refused. ap (λ b. cond (b && not (is_device e)) (Some (leaf_address (leaf_of e) other)) None) refused)
    ∙ fills_are_walks device virt ram other other_kind folding

pub fills_serve_the_device : FillsServeTheDevice
fills_serve_the_device device virt ram address other kind other_kind e folding found page =
    answers_alike device virt.csrs ram address other kind other_kind e found page (λ there. device && device_by virt.csrs.hs.status.mxr other_kind there)
    (λ refused. ap (λ b. device && (b && is_device e)) refused)
    ∙ fills_are_devices device virt ram other other_kind folding
