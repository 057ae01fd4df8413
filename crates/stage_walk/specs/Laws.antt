-- Laws of the table walk.
use Rattle.std.specs.Prelude.{ℕ, ◌≡◌, ◌≢◌, ◌+◌, ◌-◌, ◌*◌, ◌/◌, ◌%◌, ◌^◌, ◌<◌, ◌≤◌, Bool, true, not, ◌&&◌, ◌||◌, List, [], ◌∷◌, Result, Ok, Err, if◌then◌else◌}
use Rattle.arch_defs.specs.declared.modes.Access.{Access}
use Rattle.arch_defs.specs.declared.modes.Trap.{Trap}
use Rattle.arch_defs.specs.declared.walks.Shape.{Shape}
use Rattle.arch_defs.specs.declared.walks.Pte.{Pte}
use Rattle.arch_defs.specs.declared.walks.LeafPte.{LeafPte}
use Rattle.arch_defs.specs.declared.walks.WalkEnd.TheVariants.{Leaf, PageFault}
use Rattle.arch_defs.specs.declared.walks.Next.{Next}
use Rattle.arch_defs.specs.declared.walks.Next.TheVariants.{Ends, Below}
use Rattle.arch_defs.specs.Bits.{field}
use Rattle.arch_defs.specs.TableEntries.{end_at_leaf, entry_next, is_aligned, is_valid, leaf_to, needs_dirty, pointer_to, pte_of, pte_word}
use Rattle.arch_defs.specs.Walk.{EntryReading, levels, table_size, is_canonical, place_of, Met, met_in, next_of, path, walk, leaf_address}
use Rattle.stage_walk.specs.ByLevels.{walk_from}
use Rattle.stage_walk.specs.Ends.{PteFits}

-- an entry's word has 64 bits, and reads back as the entry; with V it is not 0
abbrev pub WordsFit : Type 0
WordsFit = (e : Pte) → PteFits e → pte_word e < 2 ^ 64

abbrev pub WordsReadBack : Type 0
WordsReadBack = (e : Pte) → PteFits e → pte_of (pte_word e) ≡ e

abbrev pub WordsWithVAreNotZero : Type 0
WordsWithVAreNotZero = (e : Pte) → e.v ≡ true → pte_word e ≢ 0

-- the word 0 maps nothing
abbrev pub ZeroMapsNothing : Type 0
ZeroMapsNothing = (level : ℕ) (access : Access) → entry_next level access (pte_of 0) ≡ Ends PageFault

-- a pointer's word leads below, but at the last level
abbrev pub PointersLeadBelow : Type 0
PointersLeadBelow = (level frame : ℕ) (access : Access) → frame < 2 ^ 44
    → entry_next (level + 1) access (pte_of (pte_word (pointer_to frame))) ≡ Below frame

-- a leaf's word gives its frame with its rights, but for a store that it does not permit
abbrev pub LeavesGiveRights : Type 0
LeavesGiveRights = (level frame : ℕ) (r w x : Bool) (access : Access)
    → frame < 2 ^ 44 → is_aligned level frame ≡ true → (r || x) ≡ true → (w ≡ true → r ≡ true)
    → entry_next level access (pte_of (pte_word (leaf_to frame r w x)))
    ≡ Ends (if needs_dirty access && not w then PageFault
    else Leaf frame level r w x true)

-- another reading gives at the place of each entry met what was read there
abbrev pub SameOn : EntryReading → List Met → Type 0
SameOn other [] = Unit {0}
SameOn other (m ∷ ms) = (other m.place ≡ m.read) × SameOn other ms

-- a walk depends on the entries that it met alone
abbrev pub PathsAlike : Type 0
PathsAlike = (reading other : EntryReading) (root : ℕ) (shape : Shape) (va : ℕ) (access : Access)
    → SameOn other (path reading root shape va access)
    → path other root shape va access ≡ path reading root shape va access

abbrev pub WalksAlike : Type 0
WalksAlike = (reading other : EntryReading) (root : ℕ) (shape : Shape) (va : ℕ) (access : Access)
    → SameOn other (path reading root shape va access)
    → walk other root shape va access ≡ walk reading root shape va access

-- after an entry that ends the walk there is none, and else the table that it names is next
abbrev pub GoesToNext : (ℕ → Type 0) → Next → List Met → Type 0
GoesToNext from (Ends end) ms = ms ≡ []
GoesToNext from (Below table) ms = from table

-- a list of entries, each at the place that the one before names, up to the first that ends the walk
abbrev pub IsLinked : EntryReading → Shape → ℕ → Access → ℕ → List Met → ℕ → Type 0
IsLinked reading shape va access level [] table = ⊥
IsLinked reading shape va access level (m ∷ ms) table =
    (m ≡ met_in reading shape va level table)
    × GoesToNext (IsLinked reading shape va access (level - 1) ms) (next_of access m) ms

-- the entries met are such a list from the root on, and the only one
abbrev pub PathIsLinked : Type 0
PathIsLinked = (reading : EntryReading) (root : ℕ) (shape : Shape) (va : ℕ) (access : Access)
    → is_canonical shape va ≡ true
    → IsLinked reading shape va access (levels shape - 1) (path reading root shape va access) root

abbrev pub LinkedIsPath : Type 0
LinkedIsPath = (reading : EntryReading) (root : ℕ) (shape : Shape) (va : ℕ) (access : Access) (ms : List Met)
    → is_canonical shape va ≡ true
    → IsLinked reading shape va access (levels shape - 1) ms root → ms ≡ path reading root shape va access

-- the walk ends as the plain recursion by levels does
abbrev pub EndsByLevels : Type 0
EndsByLevels = (reading : EntryReading) (root : ℕ) (shape : Shape) (va : ℕ) (access : Access)
    → walk reading root shape va access
    ≡ (if is_canonical shape va then walk_from reading shape va access (levels shape) root else PageFault)

-- an entry lies in its table
abbrev pub LiesInTable : Type 0
LiesInTable = (shape : Shape) (level table va : ℕ)
    → (4096 * table ≤ place_of shape level table va)
    × (place_of shape level table va + 8 ≤ 4096 * table + table_size shape level)

-- and the place of each entry met is a multiple of its size
abbrev pub AllAligned : List Met → Type 0
AllAligned [] = Unit {0}
AllAligned (m ∷ ms) = (m.place % 8 ≡ 0) × AllAligned ms

abbrev pub PlacesAligned : Type 0
PlacesAligned = (reading : EntryReading) (root : ℕ) (shape : Shape) (va : ℕ) (access : Access)
    → AllAligned (path reading root shape va access)

-- an entry that was read is valid
abbrev pub HasValid : Result ℕ Trap → Type 0
HasValid (Ok word) = is_valid (pte_of word) ≡ true
HasValid (Err trap) = Unit {0}

abbrev pub AllValid : List Met → Type 0
AllValid [] = Unit {0}
AllValid (m ∷ ms) = HasValid m.read × AllValid ms

-- where a walk is not a page fault, all entries that it read are valid
abbrev pub EntriesValid : Type 0
EntriesValid = (reading : EntryReading) (root : ℕ) (shape : Shape) (va : ℕ) (access : Access)
    → walk reading root shape va access ≢ PageFault → AllValid (path reading root shape va access)

-- the physical address that step 8 of the standard's algorithm makes of a leaf's page number (Privileged
-- Architecture 20211203, 4.3.2): the page offset is the address's, and in a superpage the low parts of the
-- page number are the address's too
pub record IsTranslated (level frame va pa : ℕ) : Type 0 where
  pub offset : field 0 12 pa ≡ field 0 12 va
  pub low : (i : ℕ) → i < level → field (12 + 9 * i) 9 pa ≡ field (12 + 9 * i) 9 va
  pub high : pa / 2 ^ (12 + 9 * level) ≡ frame / 2 ^ (9 * level)

-- a leaf comes from an entry that was read at its level
abbrev pub IsLeafOf : LeafPte → ℕ → Met → Type 0
IsLeafOf leaf va m = (word : ℕ) × (m.read ≡ Ok word) × (m.level ≡ leaf.level)
    × IsTranslated leaf.level (pte_of word).frame va (leaf_address leaf va)

abbrev pub LastIsLeaf : LeafPte → ℕ → List Met → Type 0
LastIsLeaf leaf va [] = ⊥
LastIsLeaf leaf va (m ∷ []) = IsLeafOf leaf va m
LastIsLeaf leaf va (m ∷ (n ∷ ms)) = LastIsLeaf leaf va (n ∷ ms)

-- the address under a walk's leaf is the one that the standard's formula makes of the last entry met
abbrev pub LeafAddress : Type 0
LeafAddress = (reading : EntryReading) (root : ℕ) (shape : Shape) (va : ℕ) (access : Access)
    (leaf : LeafPte)
    → walk reading root shape va access ≡ end_at_leaf leaf
    → LastIsLeaf leaf va (path reading root shape va access)
