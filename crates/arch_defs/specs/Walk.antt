-- The table walk (Privileged Architecture 20211203, 4.3.2, for Sv39 and Sv48 as 4.4 and 4.5 have it, and
-- 8.5.1 for Sv39x4 and Sv48x4), by the list of the entries that it meets, top level first.
use Rattle.std.specs.Prelude.{ℕ, suc, zero, ◌+◌, ◌*◌, ◌^◌, ◌%◌, Bool, ◌==◌, nat_lt, List, [], ◌∷◌, Result, Ok, Err, if◌then◌else◌}
use Rattle.arch_defs.specs.declared.modes.Access.{Access}
use Rattle.arch_defs.specs.declared.modes.Trap.{Trap}
use Rattle.arch_defs.specs.declared.walks.Shape.{Shape}
use Rattle.arch_defs.specs.declared.walks.Shape.TheVariants.{Sv39, Sv48, Sv39x4, Sv48x4}
use Rattle.arch_defs.specs.declared.walks.LeafPte.{LeafPte}
use Rattle.arch_defs.specs.declared.walks.WalkEnd.{WalkEnd}
use Rattle.arch_defs.specs.declared.walks.WalkEnd.TheVariants.{PageFault, FetchEnd}
use Rattle.arch_defs.specs.declared.walks.Next.{Next}
use Rattle.arch_defs.specs.declared.walks.Next.TheVariants.{Ends, Below}
use Rattle.arch_defs.specs.Bits.{field, sign_extend}
use Rattle.arch_defs.specs.TableEntries.{pte_of, entry_next}

-- a reading of places: the entry's word at each, or the trap for which there is none
abbrev pub EntryReading : Type 0
EntryReading = ℕ → Result ℕ Trap

-- how many levels a table has; the root's level is one less
abbrev pub levels : Shape → ℕ
levels Sv39 = 3
levels Sv48 = 4
levels Sv39x4 = 3
levels Sv48x4 = 4

-- the most levels that a table has, and the highest level
abbrev pub most_levels : ℕ
most_levels = 4

abbrev pub most_level : ℕ
most_level = 3

-- the most bits of a guest physical address that a table translates: those of Sv48x4 (8.5.1)
abbrev pub guest_bits : ℕ
guest_bits = 50

-- how many bits the root's index has beyond the 9 of every other table (8.5.1)
abbrev pub widening : Shape → ℕ
widening Sv39 = 0
widening Sv48 = 0
widening Sv39x4 = 2
widening Sv48x4 = 2

-- the bits of the index into a table of this level
abbrev pub index_bits : Shape → ℕ → ℕ
index_bits shape level = if level + 1 == levels shape then 9 + widening shape else 9

-- the bytes of a table of this level: 4 KiB, and 16 KiB for the root of Sv39x4 and of Sv48x4
abbrev pub table_size : Shape → ℕ → ℕ
table_size shape level = 8 * 2 ^ index_bits shape level

-- Sv39: bits 63:39 equal bit 38 (4.4.1); Sv48: bits 63:48 equal bit 47 (4.5.1); Sv39x4 and Sv48x4: guest
-- physical addresses have 41 and 50 bits (8.5.1)
abbrev pub is_canonical : Shape → ℕ → Bool
is_canonical Sv39 va = sign_extend 39 (field 0 39 va) == va
is_canonical Sv48 va = sign_extend 48 (field 0 48 va) == va
is_canonical Sv39x4 va = nat_lt va (2 ^ 41)
is_canonical Sv48x4 va = nat_lt va (2 ^ guest_bits)

-- the part of an address that is the index into a table of this level
abbrev pub index : Shape → ℕ → ℕ → ℕ
index shape level va = field (12 + 9 * level) (index_bits shape level) va

-- the place of an address's entry in the table of a frame (4.3.2, step 2)
abbrev pub place_of : Shape → ℕ → ℕ → ℕ → ℕ
place_of shape level table va = 4096 * table + 8 * index shape level va

-- an entry met: its level, its place, and what the reading gave there
pub record Met : Type 0 where
  pub level : ℕ
  pub place : ℕ
  pub read : Result ℕ Trap

-- the entry that a walk meets in the table of a frame
abbrev pub met_in : EntryReading → Shape → ℕ → ℕ → ℕ → Met
met_in reading shape va level table =
    let place = place_of shape level table va in record { level = level; place = place; read = reading place }

-- what it says: one that could not be read ends the walk with its place and trap
abbrev pub read_next : ℕ → ℕ → Access → Result ℕ Trap → Next
read_next level place access (Ok word) = entry_next level access (pte_of word)
read_next level place access (Err trap) = Ends (FetchEnd place trap)

abbrev pub next_of : Access → Met → Next
next_of access m = read_next m.level m.place access m.read

-- the entries met after one that says this
abbrev pub later : (ℕ → List Met) → Next → List Met
later from (Ends end) = []
later from (Below table) = from table

-- the entries met from a table with that many levels on: its own, and those from the table that it names on
unfoldable pub path_from : EntryReading → Shape → ℕ → Access → ℕ → ℕ → List Met
path_from reading shape va access zero table = []
path_from reading shape va access (suc level) table =
    let m =
    met_in reading shape va level table in m
    ∷ later (path_from reading shape va access level) (next_of access m)

-- the entries met from a root, a frame's number, on; an address with wrong upper bits meets none
unfoldable pub path : EntryReading → ℕ → Shape → ℕ → Access → List Met
path reading root shape va access =
    if is_canonical shape va then path_from reading shape va access (levels shape) root else []

-- the end that the first of these entries that has one gives; without one the walk is a page fault
abbrev pub or_else : WalkEnd → Next → WalkEnd
or_else other (Ends end) = end
or_else other (Below table) = other

unfoldable pub end_of : Access → List Met → WalkEnd
end_of access [] = PageFault
end_of access (m ∷ ms) = or_else (end_of access ms) (next_of access m)

-- the walk of the table at a root for an access at an address
unfoldable pub walk : EntryReading → ℕ → Shape → ℕ → Access → WalkEnd
walk reading root shape va access = end_of access (path reading root shape va access)

-- the physical address of an address under a leaf: the leaf's frame, with the offset in the page of its level
-- (4.3.2, step 8)
abbrev pub leaf_address : LeafPte → ℕ → ℕ
leaf_address leaf va = 4096 * leaf.frame + va % 2 ^ (12 + 9 * leaf.level)
