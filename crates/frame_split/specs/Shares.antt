-- How machine memory is shared out.
use Rattle.std.specs.Prelude.{ℕ, ◌≡◌, ◌≢◌, ◌+◌, ◌*◌, ◌%◌, ◌^◌, ◌<◌, ◌≤◌, true, List, [], ◌∷◌, length, get_or, drop, slice_index}
use Rattle.guest_settings.specs.declared.needs.Need.{Need}
use Rattle.frame_split.specs.declared.planning.Free.{Free}
use Rattle.frame_split.specs.declared.planning.Split.{Split}
use Rattle.frame_split.specs.declared.faults.PlanFault.{PlanFault}
use Rattle.frame_split.specs.declared.faults.PlanFault.TheVariants.{NoMemory, TooMuch}
use Rattle.arch_defs.specs.Frames.{in_blocks, Apart, LieIn, most_frames}
use Rattle.arch_defs.specs.Layouts.{Layout, NamesEachOnce, in_tables, root_frames, table_frames, named_by, Meets}
use Rattle.guest_settings.specs.Limits.{most_entries, most_spaces}
use Rattle.guest_settings.specs.Needs.{tables_for, IsNeed, frames_needed}

-- the frames that all of them need
abbrev pub frames_of_all : List Need → ℕ
frames_of_all [] = 0
frames_of_all (need ∷ needs) = frames_needed need + frames_of_all needs

-- and with that many spare blocks beside
abbrev pub frames_with : List Need → ℕ → ℕ
frames_with needs spare = frames_of_all needs + 512 * spare

abbrev pub AreNeeds : List Need → Type 0
AreNeeds needs = (i : ℕ) (d : Need) → i < length needs → IsNeed (get_or needs i d)

-- each guest gets a part of the size that it needs
abbrev pub MeetEach : List Need → List Layout → Type 0
MeetEach needs parts =
    (i : ℕ) (n : Need) (d : Layout) → i < length needs → Meets (get_or needs i n) (get_or parts i d)

-- no frame is in two parts
abbrev pub ArePairwiseApart : List Layout → Type 0
ArePairwiseApart parts =
    (i j : ℕ) (d : Layout) → i < length parts → j < length parts → i ≢ j
    → Apart (named_by (get_or parts i d)) (named_by (get_or parts j d))

-- each part names no frame twice, and lies in memory of that many frames
abbrev pub AreSound : List Layout → ℕ → Type 0
AreSound parts frames =
    (i : ℕ) (d : Layout) → i < length parts
    → NamesEachOnce (get_or parts i d) × LieIn (named_by (get_or parts i d)) (frames * 4096)

-- all blocks come before all roots, and these before all other tables
abbrev pub BlocksComeFirst : List Layout → Type 0
BlocksComeFirst parts = (i j f g : ℕ) (d : Layout) → i < length parts → j < length parts
    → in_blocks ((get_or parts i d).blocks) f ≡ true → in_tables (get_or parts j d) g ≡ true → f < g

abbrev pub RootsComeNext : List Layout → Type 0
RootsComeNext parts = (i j f g : ℕ) (d : Layout) → i < length parts → j < length parts
    → root_frames (get_or parts i d) f ≡ true → table_frames (get_or parts j d) g ≡ true → f < g

-- parts for these needs in memory of that many frames
pub record IsSplit (needs : List Need) (parts : List Layout) (frames : ℕ) : Type 0 where
  pub count : length parts ≡ length needs
  pub meet : MeetEach needs parts
  pub apart : ArePairwiseApart parts
  pub sound : AreSound parts frames
  pub blocks_first : BlocksComeFirst parts
  pub roots_next : RootsComeNext parts

-- the most tables beside the roots that a need has: one of the host table, and those of its spaces
abbrev pub most_guest_tables : ℕ
most_guest_tables = 1 + most_spaces * tables_for most_entries

-- where to go on: the first free block, the first free frame for roots, and that for other tables
abbrev pub after_need : Need → Free → Free
after_need need free = record {
  block = free.block + need.blocks;
  root = free.root + 4 * (1 + need.spaces);
  table = free.table + (1 + need.spaces * tables_for need.entries);
}

-- a part lies between two such places
pub record LiesBetween (from to : Free) (part : Layout) : Type 0 where
  pub blocks_from : (i : ℕ) → i < length part.blocks → from.block ≤ slice_index part.blocks i
  pub blocks_to : (i : ℕ) → i < length part.blocks → slice_index part.blocks i < to.block
  pub roots_from : from.root ≤ part.first_root
  pub roots_to : part.first_root + 4 * (1 + part.spaces) ≤ to.root
  pub tables_from : from.table ≤ part.first_table
  pub tables_to : part.first_table + (1 + part.spaces * tables_for part.entries) ≤ to.table

-- the blocks end where the roots begin or before, and the roots where the other tables do
pub record IsOrdered (from to : Free) : Type 0 where
  pub blocks : 512 * to.block ≤ from.root
  pub roots : to.root ≤ from.table

-- a part can begin there: its roots at a multiple of four frames, its other tables at a number of 32 bits
pub record CanBegin (free : Free) : Type 0 where
  pub aligned : free.root % 4 ≡ 0
  pub small : free.table < 2 ^ 32

-- the blocks, roots and other table frames that all of them need
abbrev pub blocks_of_all : List Need → ℕ
blocks_of_all [] = 0
blocks_of_all (need ∷ needs) = need.blocks + blocks_of_all needs

abbrev pub roots_of_all : List Need → ℕ
roots_of_all [] = 0
roots_of_all (need ∷ needs) = 1 + need.spaces + roots_of_all needs

abbrev pub tables_of_all : List Need → ℕ
tables_of_all [] = 0
tables_of_all (need ∷ needs) = 1 + need.spaces * tables_for need.entries + tables_of_all needs

-- the blocks of all parts have numbers below one, and their roots begin at a frame or behind it
abbrev pub BlocksLieBelow : ℕ → List Layout → Type 0
BlocksLieBelow block parts = (i j : ℕ) (d : Layout) → i < length parts
    → j < length (get_or parts i d).blocks → slice_index (get_or parts i d).blocks j < block

abbrev pub RootsLieFrom : ℕ → List Layout → Type 0
RootsLieFrom frame parts =
    (i : ℕ) (d : Layout) → i < length parts → frame ≤ (get_or parts i d).first_root

-- that many spare blocks from a first one on lie between the blocks of all parts and their roots: in no part,
-- and in memory of that many frames
pub record LeavesSpare (first spare : ℕ) (parts : List Layout) (frames : ℕ) : Type 0 where
  pub behind : BlocksLieBelow first parts
  pub before : RootsLieFrom (512 * (first + spare)) parts
  pub apart : (k i : ℕ) (d : Layout) → k < spare → i < length parts
      → Apart (in_blocks ((first + k) ∷ [])) (named_by (get_or parts i d))
  pub lies : (k : ℕ) → k < spare → LieIn (in_blocks ((first + k) ∷ [])) (frames * 4096)

-- machine memory shared out for these needs and that many spare blocks
pub record IsSharedOut (needs : List Need) (spare : ℕ) (split : Split) : Type 0 where
  pub parts : IsSplit needs split.parts.items split.frames
  pub blocks : split.blocks ≡ blocks_of_all needs
  pub leaves : LeavesSpare split.blocks spare split.parts.items split.frames
  pub frames : split.frames ≡ frames_with needs spare
  pub fits : split.frames ≤ most_frames

-- the blocks of all needs have room from a place on up to the roots, these up to the other tables, and these in
-- memory of that many frames
pub record HasRoomFor (needs : List Need) (start : Free) (frames : ℕ) : Type 0 where
  pub blocks : 512 * (start.block + blocks_of_all needs) ≤ start.root
  pub roots : start.root + 4 * roots_of_all needs ≤ start.table
  pub tables : start.table + tables_of_all needs ≤ frames
  pub aligned : start.root % 4 ≡ 0

-- the parts of the needs so far, from one place to another, and what is still to be shared out up to the ends
pub record SoFar (needs : List Need) (done : ℕ) (parts : List Layout) (start free : Free) (frames : ℕ)
    : Type 0 where
  pub count : length parts ≡ done
  pub meet : (i : ℕ) (n : Need) (d : Layout) → i < done → Meets (get_or needs i n) (get_or parts i d)
  pub apart : ArePairwiseApart parts
  pub once : (i : ℕ) (d : Layout) → i < done → NamesEachOnce (get_or parts i d)
  pub between : (i : ℕ) (d : Layout) → i < done → LiesBetween start free (get_or parts i d)
  pub ends : free.block + blocks_of_all (drop done needs) ≡ start.block + blocks_of_all needs
  pub blocks : 512 * (free.block + blocks_of_all (drop done needs)) ≤ start.root
  pub roots : free.root + 4 * roots_of_all (drop done needs) ≤ start.table
  pub tables : free.table + tables_of_all (drop done needs) ≤ frames
  pub aligned : free.root % 4 ≡ 0
  pub from : (start.block ≤ free.block) × (start.root ≤ free.root) × (start.table ≤ free.table)

-- why there is no plan, by the frames that all would need: they are too many, or they aren't and memory runs
-- out
abbrev pub Causes : PlanFault → ℕ → Type 0
Causes NoMemory all = all ≤ most_frames
Causes (TooMuch sum) all = (sum ≡ all) × (most_frames < sum)
