-- A space and the bytes of its table.
use Rattle.std.specs.Prelude.{ℕ, ◌≡◌, ◌+◌, ◌*◌, ◌/◌, ◌%◌, ◌<◌, ◌≤◌, ◌^◌, true, List, length, slice_index}
use Rattle.std.specs.List.{All, AllPairs}
use Rattle.arch_defs.specs.declared.cached.Entry.{Entry}
use Rattle.arch_defs.specs.Frames.{Frames, LieIn, Only}
use Rattle.arch_defs.specs.Layouts.{Layout, NamesEachOnce, space_frames}
use Rattle.guest_settings.specs.Needs.{tables_for}
use Rattle.arch_defs.specs.CachedEntries.{CanFill, HasOtherPage}
use Rattle.shadow_space.specs.declared.cached.CachedTable.{CachedTable}
use Rattle.shadow_space.specs.declared.frames.TableFrames.{TableFrames}
use Rattle.shadow_space.specs.declared.writing.Tables.{Tables}
use Rattle.shadow_space.specs.Held.{HoldsList}
use Rattle.guest_settings.specs.Limits.{most_entries}

-- a space: the part of its guest, its number in it, at most how many entries it has, these, oldest first, and
-- the frames of their tables
pub record Shadow : Type 0 where
  pub part : Layout
  pub index : ℕ
  pub most : ℕ
  pub entries : List Entry
  pub frames : TableFrames

-- the space that is a list with its tables, of this number
abbrev pub shadow_of : ℕ → CachedTable → Shadow
shadow_of index table = record {
  part = table.part;
  index = index;
  most = table.most;
  entries = table.entries;
  frames = table.frames;
}

-- the frame of its root
abbrev pub root_of : Shadow → ℕ
root_of space = space.part.first_root + 4 * (1 + space.index)

-- the frame of a root, a multiple of four with room in an entry
pub record IsRootFrame (root frame : ℕ) : Type 0 where
  pub value : frame ≡ root
  pub aligned : frame % 4 ≡ 0
  pub small : frame < 2 ^ 44

-- its frames
abbrev pub own_frames : Shadow → Frames
own_frames space = space_frames space.part space.index

-- its tables: as many frames beside the root as the part has for a space
abbrev pub tables_in : Layout → ℕ → Tables
tables_in part index = record {
  root = part.first_root + 4 * (1 + index);
  first = part.first_table + 1 + index * tables_for part.entries;
  count = tables_for part.entries;
}

-- the part's numbers are of that many bits
pub record HasSmallNumbers (part : Layout) : Type 0 where
  pub blocks : (i : ℕ) → slice_index part.blocks i < 2 ^ 32
  pub root : part.first_root < 2 ^ 32
  pub table : part.first_table < 2 ^ 32
  pub spaces : part.spaces < 2 ^ 16
  pub entries : part.entries < 2 ^ 16

-- a part can have the space of this number, with room for that many entries
pub record CanHaveSpace (part : Layout) (number entries : ℕ) : Type 0 where
  pub index : number < part.spaces
  pub few : entries ≤ most_entries
  pub room : entries ≤ part.entries

-- what holds of each space: its part has it, with frames for that many entries; these are at most that many,
-- and each can be filled and has a page of its own
pub record IsShadow (space : Shadow) : Type 0 where
  pub once : NamesEachOnce space.part
  pub small : HasSmallNumbers space.part
  pub index : space.index < space.part.spaces
  pub most : space.most ≤ most_entries
  pub room : space.most ≤ space.part.entries
  pub few : length space.entries ≤ space.most
  pub fill : All (CanFill space.part.blocks) space.entries
  pub pages : AllPairs HasOtherPage space.entries

-- the frames lie in memory, and have the tree of the space's entries
pub record IsTidy (space : Shadow) (memory : List ℕ) : Type 0 where
  pub is : IsShadow space
  pub lies : LieIn (own_frames space) (length memory)
  pub holds : HoldsList (tables_in space.part space.index) space.part.blocks space.most space.entries
      space.frames memory

unfoldable pub Tidy : Shadow → List ℕ → Type 0
Tidy space memory = IsTidy space memory

-- what no call changes: a space's part, its number, its room, and memory but for the bytes of its own frames
pub record KeepsSpace (old : Shadow) (memory : List ℕ) (new : Shadow) (changed : List ℕ) : Type 0 where
  pub part : new.part ≡ old.part
  pub index : new.index ≡ old.index
  pub most : new.most ≡ old.most
  pub only : Only (own_frames old) memory changed

-- the bytes of these frames are zeros
pub record AreZeros (frames : Frames) (memory : List ℕ) : Type 0 where
  pub each : (at : ℕ) → frames (at / 4096) ≡ true → slice_index memory at ≡ 0
