-- The frames that a space keeps for tables, and how the tables stand in memory.
use Rattle.std.specs.Prelude.{ℕ, ◌≡◌, ◌+◌, ◌-◌, ◌*◌, ◌<◌, ◌≤◌, ◌^◌, ◌==◌, not, List, Some, None, length, slice_index, slice_index_or, slice_set, if◌then◌else◌}
use Rattle.std.specs.List.{All, AllPairs, count_by, sum}
use Rattle.arch_defs.specs.declared.cached.Entry.{Entry}
use Rattle.arch_defs.specs.Frames.{Only}
use Rattle.shadow_space.specs.declared.cached.CachedTable.{CachedTable}
use Rattle.shadow_space.specs.declared.frames.TableFrames.{TableFrames}
use Rattle.shadow_space.specs.declared.writing.Tables.{Tables}
use Rattle.arch_defs.specs.CachedEntries.{CanFill, HasOtherPage}
use Rattle.shadow_space.specs.Leaves.{leaves}
use Rattle.shadow_space.specs.Trees.{Free, HasTables, IsTree, Says, Tree, frames_of, most_tables, prefix, top}
use Rattle.guest_settings.specs.Limits.{most_entries}
use Rattle.table_words.specs.Entries.{named_frame, pointer_word}
use Rattle.table_words.specs.Words.{doubleword_at, with_word}

-- one more entry in frame j's table, the first one in that of the last free frame, one less, and the last one
-- taken out
abbrev pub more : TableFrames → ℕ → TableFrames
more frames j = record frames { counts = slice_set frames.counts j (slice_index frames.counts j + 1) }

abbrev pub next_free : TableFrames → ℕ
next_free frames = slice_index frames.free (frames.left - 1)

abbrev pub opened : TableFrames → TableFrames
opened frames =
    record frames { counts = slice_set frames.counts (next_free frames) 1; left = frames.left - 1 }

abbrev pub fewer : TableFrames → ℕ → TableFrames
fewer frames j = record frames { counts = slice_set frames.counts j (slice_index frames.counts j - 1) }

abbrev pub closed : TableFrames → ℕ → TableFrames
closed frames j = record frames {
  counts = slice_set frames.counts j 0;
  free = slice_set frames.free frames.left j;
  left = frames.left + 1;
}

-- the frames of tables, and memory
pub record Held : Type 0 where
  pub frames : TableFrames
  pub memory : List ℕ

abbrev pub held_in : TableFrames → List ℕ → Held
held_in frames memory = record { frames = frames; memory = memory }

-- there is a free frame, and a pointer has room for its number
pub record HasFree (frames : TableFrames) (first : ℕ) : Type 0 where
  pub some : 0 < frames.left
  pub most : frames.left ≤ most_tables
  pub inside : next_free frames < most_tables
  pub small : first + next_free frames < 2 ^ 44

-- a frame has a count, with room for one more
pub record IsCounting (frames : TableFrames) (first frame : ℕ) : Type 0 where
  pub from : first ≤ frame
  pub inside : frame - first < most_tables
  pub room : slice_index frames.counts (frame - first) < 65535

-- memory has a doubleword of this number
pub record HasDoubleword (memory : List ℕ) (i : ℕ) : Type 0 where
  pub inside : 8 * i + 8 ≤ length memory
  pub small : i < 2 ^ 60

-- with one more entry in the table that doubleword i points to. Where it points to none, a free frame becomes
-- it
unfoldable pub table_entered : ℕ → ℕ → Held → Held
table_entered first i held =
    if doubleword_at held.memory i == 0
    then record {
      frames = opened held.frames;
      memory = with_word held.memory i (pointer_word (first + next_free held.frames));
    }
    else record {
      frames = more held.frames (named_frame (doubleword_at held.memory i) - first);
      memory = held.memory;
    }

-- the frame of that table
unfoldable pub entered_frame : ℕ → ℕ → Held → ℕ
entered_frame first i held =
    if doubleword_at held.memory i == 0 then first + next_free held.frames
    else named_frame (doubleword_at held.memory i)

-- with one entry less in a frame's table, which doubleword i points to. A table without entries gives its
-- frame back
unfoldable pub departed : ℕ → ℕ → ℕ → Held → Held
departed first i frame held =
    if slice_index held.frames.counts (frame - first) == 1
    then record {
      frames = closed held.frames (frame - first);
      memory = with_word held.memory i 0;
    }
    else record { frames = fewer held.frames (frame - first); memory = held.memory }

-- of that many frames those that are free are known, each once: a frame has no table exactly where its count
-- is 0. There are no others with a count, and all counts have this sum
pub record IsKept (frames : TableFrames) (count total : ℕ) : Type 0 where
  pub counts : length frames.counts ≡ most_tables
  pub frees : length frames.free ≡ most_tables
  pub places : length frames.places ≡ most_entries
  pub few : count ≤ most_tables
  pub beyond : (j : ℕ) → count ≤ j → slice_index frames.counts j ≡ 0
  pub below : (i : ℕ) → i < frames.left → slice_index frames.free i < count
  pub zero : (i : ℕ) → i < frames.left → slice_index frames.counts (slice_index frames.free i) ≡ 0
  pub distinct : (i j : ℕ) → i < frames.left → j < frames.left
      → slice_index frames.free i ≡ slice_index frames.free j → i ≡ j
  pub all : frames.left + count_by (λ n. not (n == 0)) frames.counts ≡ count
  pub sums : sum frames.counts ≡ total

-- a frame's count is the number of its table, which is not 0, and where there is no table, the number is 0
pub record IsCounted (tables : Tables) (tree : Tree) (counts : List ℕ) (number : ℕ → ℕ → ℕ) : Type 0 where
  pub some : (h k frame : ℕ) → h < top → tree.place h k ≡ Some frame
      → (slice_index counts (frame - tables.first) ≡ number h k) × (0 < number h k)
  pub none : (h k : ℕ) → h < top → tree.place h k ≡ None → number h k ≡ 0
  pub free : (j : ℕ) → j < tables.count → slice_index counts j ≡ 0 → tree.content (tables.first + j) ≡ Free

-- memory has a tree with these leaves, each table below the root has its number of entries, and the table of
-- each entry's page is known
pub record Stands (tables : Tables) (number : ℕ → ℕ → ℕ) (leaf : ℕ → ℕ) (entries : List Entry) (held : Held)
    : Type 0 where
  pub tree : Tree
  pub sound : IsTree tables tree
  pub says : Says (doubleword_at held.memory) tables tree leaf
  pub counted : IsCounted tables tree held.frames.counts number
  pub index : (i : ℕ) (e : Entry) → i < length entries
      → tree.place 0 (prefix 0 (slice_index_or entries i e).page)
      ≡ Some (tables.first + slice_index held.frames.places i)

-- how many of a list's entries have pages of a table
unfoldable pub number_of : List Entry → ℕ → ℕ → ℕ
number_of entries h k = count_by (λ e. prefix h e.page == k) entries

-- the list, its tables in memory, and what is kept of them. A list of n entries is in n tables of each level
pub record HoldsList (tables : Tables) (blocks : List ℕ) (most : ℕ) (entries : List Entry)
    (frames : TableFrames) (memory : List ℕ) : Type 0 where
  pub placed : HasTables tables (length memory)
  pub count : top * most ≤ tables.count
  pub bound : most ≤ most_entries
  pub few : length entries ≤ most
  pub fill : All (CanFill blocks) entries
  pub pages : AllPairs HasOtherPage entries
  pub kept : IsKept frames (top * most) (top * length entries)
  pub stands : Stands tables (number_of entries) (leaves blocks entries) entries (held_in frames memory)

-- places without that of entry i of that many, with those behind it moved up
pub record HasMovedUp (old new : List ℕ) (i count : ℕ) : Type 0 where
  pub size : length new ≡ length old
  pub before : (k : ℕ) → k < i → slice_index new k ≡ slice_index old k
  pub behind : (k : ℕ) → i ≤ k → k + 1 < count → slice_index new k ≡ slice_index old (k + 1)

-- so of a table as a whole
abbrev pub Holds : Tables → CachedTable → List ℕ → Type 0
Holds tables table memory =
    HoldsList tables table.part.blocks table.most table.entries table.frames memory

-- an entry can be put behind the others: there is room for it, and none of them has its page
pub record CanPut (tables : Tables) (table : CachedTable) (memory : List ℕ) (e : Entry) : Type 0 where
  pub holds : Holds tables table memory
  pub room : length table.entries < table.most
  pub entry : CanFill table.part.blocks e
  pub others : All (λ other. HasOtherPage other e) table.entries

-- what no call changes: the part of a list's tables, its room, and memory but for the bytes of their frames
pub record KeepsTable (tables : Tables) (old : CachedTable) (memory : List ℕ) (new : CachedTable)
    (changed : List ℕ) : Type 0 where
  pub part : new.part ≡ old.part
  pub most : new.most ≡ old.most
  pub only : Only (frames_of tables) memory changed
