-- The way of a page through its tables, from the root to the lowest one, and tables that the change of an
-- entry is under way in (own).
use Rattle.std.specs.Prelude.{ℕ, zero, suc, ◌≡◌, ◌+◌, ◌-◌, ◌*◌, ◌%◌, ◌<◌, ◌≤◌, ◌^◌, ◌==◌, ◌&&◌, List, length, nat_le, slice_index, if◌then◌else◌}
use Rattle.arch_defs.specs.declared.cached.Entry.{Entry}
use Rattle.arch_defs.specs.CachedEntries.{guest_page_bits}
use Rattle.shadow_space.specs.declared.cached.CachedTable.{CachedTable}
use Rattle.shadow_space.specs.declared.writing.Tables.{Tables}
use Rattle.shadow_space.specs.Held.{Held, IsKept, Stands, held_in, number_of}
use Rattle.shadow_space.specs.Leaves.{leaves}
use Rattle.shadow_space.specs.Trees.{HasTables, Table, prefix, top}
use Rattle.guest_settings.specs.Limits.{most_entries}

-- the prefix of a page's table of a level: the root is for all pages
abbrev pub table_prefix : ℕ → ℕ → ℕ
table_prefix level page = if level == top then 0 else prefix level page

-- the entry of a page in its table of a level: the root's index has what is left of the page
abbrev pub slot_of : ℕ → ℕ → ℕ
slot_of zero page = page % 512
slot_of (suc h) page = if suc h == top then prefix h page else prefix h page % 512

-- how many of a list's entries have pages of a table, with one page more from a level up
unfoldable pub number_with : List Entry → ℕ → ℕ → ℕ → ℕ → ℕ
number_with entries page from h k =
    number_of entries h k + (if nat_le from h && prefix h page == k then 1 else 0)

-- there is room for one more entry of a list
pub record HasRoom (tables : Tables) (most : ℕ) (entries : List Entry) : Type 0 where
  pub count : top * most ≤ tables.count
  pub bound : most ≤ most_entries
  pub room : length entries < most

-- a list stands in its tables, a page is counted in its tables from a level up, and the frames of its tables
-- from another level up are known
pub record IsUnderWay (tables : Tables) (blocks : List ℕ) (most : ℕ) (entries : List Entry)
    (page from known : ℕ) (way : List ℕ) (held : Held) : Type 0 where
  pub levels : from ≤ top
  pub placed : HasTables tables (length held.memory)
  pub kept : IsKept held.frames (top * most) (top * length entries + (top - from))
  pub stands : Stands tables (number_with entries page from) (leaves blocks entries) entries held
  pub frames : (h : ℕ) → known ≤ h → h ≤ top
      → stands.tree.content (slice_index way h) ≡ Table h (table_prefix h page)

-- so of the list of a table
abbrev pub UnderWay : Tables → CachedTable → ℕ → ℕ → ℕ → List ℕ → List ℕ → Type 0
UnderWay tables table page from known way memory =
    IsUnderWay tables table.part.blocks table.most table.entries page from known way
    (held_in table.frames memory)

-- the tables of the page of this number can be followed: one more entry has room, and the change of an entry is under way in them
pub record CanFollow (tables : Tables) (table : CachedTable) (number from known : ℕ) (way : List ℕ)
    (memory : List ℕ) : Type 0 where
  pub page : number < 2 ^ guest_page_bits
  pub room : HasRoom tables table.most table.entries
  pub stands : UnderWay tables table number from known way memory
