-- The tables of a space as a tree: which table a frame holds, and which frame holds a table. A table is named
-- by its level and by the part of page numbers that all its pages share (Privileged Architecture 20211203,
-- 8.5.1).
use Rattle.std.specs.Prelude.{ℕ, zero, suc, ◌≡◌, ◌+◌, ◌*◌, ◌/◌, ◌<◌, ◌≤◌, ◌^◌, ◌⊎◌, ◌==◌, Option, Some, None, if◌then◌else◌}
use Rattle.arch_defs.specs.Frames.{Frames, LieIn, joined, within}
use Rattle.arch_defs.specs.declared.walks.Shape.{Shape}
use Rattle.arch_defs.specs.Roots.{folded_mode, guest_shape}
use Rattle.guest_settings.specs.Needs.{tables_for}
use Rattle.shadow_space.specs.declared.writing.Tables.{Tables}
use Rattle.table_words.specs.Entries.{pointer_word}
use Rattle.guest_settings.specs.Limits.{most_entries}

-- all frames of these tables
abbrev pub frames_of : Tables → Frames
frames_of tables = joined (within tables.root 4) (within tables.first tables.count)

-- the root, or one of the other frames
abbrev pub IsOwn : Tables → ℕ → Type 0
IsOwn tables frame =
    (frame ≡ tables.root) ⊎ ((tables.first ≤ frame) × (frame < tables.first + tables.count))

-- the root is none of the other frames
abbrev pub RootIsApart : Tables → Type 0
RootIsApart tables = (tables.root + 4 ≤ tables.first) ⊎ (tables.first + tables.count ≤ tables.root)

-- how many entries the table of a frame has: the root is of four frames
abbrev pub slots : Tables → ℕ → ℕ
slots tables frame = if frame == tables.root then 2048 else 512

-- the shape of a folded table, and the level of its root (own)
abbrev pub folded_shape : Shape
folded_shape = guest_shape folded_mode

abbrev pub top : ℕ
top = 3

-- the most tables below the root of a space (own)
abbrev pub most_tables : ℕ
most_tables = tables_for most_entries

-- what a frame holds: nothing, or the table of a level h with a prefix k, which is that of the pages whose
-- number divided by 512 ^ (h + 1) is k
pub data Content : Type 0 where
  Free : Content
  Table : ℕ → ℕ → Content

-- that number of a page
abbrev pub prefix : ℕ → ℕ → ℕ
prefix zero page = page / 512
prefix (suc h) page = prefix h page / 512

-- what each frame holds, and the frame of each table, by level and prefix
pub record Tree : Type 0 where
  pub content : ℕ → Content
  pub place : ℕ → ℕ → Option ℕ

-- a pointer, where there is a table
abbrev pub pointer_of : Option ℕ → ℕ
pointer_of None = 0
pointer_of (Some frame) = pointer_word frame

-- what entry s of a frame's table is: a page's leaf, or a pointer to the table below, where there is one
abbrev pub entry_of : Tree → (ℕ → ℕ) → Content → ℕ → ℕ
entry_of tree leaf Free s = 0
entry_of tree leaf (Table zero k) s = leaf (512 * k + s)
entry_of tree leaf (Table (suc h) k) s = pointer_of (tree.place h (512 * k + s))

-- the root is the table of the highest level; each table has one frame, and each frame at most one table
pub record IsTree (tables : Tables) (tree : Tree) : Type 0 where
  pub apart : RootIsApart tables
  pub root : tree.content tables.root ≡ Table top 0
  pub back : (frame h k : ℕ) → tree.content frame ≡ Table h k → tree.place h k ≡ Some frame
  pub forth : (frame h k : ℕ) → tree.place h k ≡ Some frame → tree.content frame ≡ Table h k
  pub own : (frame h k : ℕ) → tree.place h k ≡ Some frame → IsOwn tables frame
  pub proper : (frame h k : ℕ) → tree.content frame ≡ Table h k → (h < top) ⊎ ((h ≡ top) × (k ≡ 0))

-- doublewords of memory are the entries of the tree's tables. Where a page has no table, it has no leaf
pub record Says (word : ℕ → ℕ) (tables : Tables) (tree : Tree) (leaf : ℕ → ℕ) : Type 0 where
  pub words : (frame s : ℕ) → IsOwn tables frame → s < slots tables frame
      → word (512 * frame + s) ≡ entry_of tree leaf (tree.content frame) s
  pub nothing : (h k s : ℕ) → h < top → tree.place h k ≡ None → s < 512
      → entry_of tree leaf (Table h k) s ≡ 0

-- the tables lie in memory of that many bytes, and a pointer has room for the number of each frame
pub record HasTables (tables : Tables) (size : ℕ) : Type 0 where
  pub lies : LieIn (frames_of tables) size
  pub root : tables.root + 4 < 2 ^ 44
  pub others : tables.first + tables.count < 2 ^ 44
