-- A pool: tables for spaces, some of which are for a value of hgatp.
use Rattle.std.specs.Prelude.{ℕ, ◌≡◌, ◌≢◌, ◌+◌, ◌*◌, ◌<◌, ◌≤◌, ◌⊎◌, Bool, true, false, List, [], ◌∷◌, Option, Some, None, length, if◌then◌else◌}
use Rattle.std.specs.Option.{is_none}
use Rattle.std.specs.List.{All, AllPairs, filter_map, slice_index_or}
use Rattle.arch_defs.specs.declared.cached.Entry.{Entry}
use Rattle.arch_defs.specs.declared.roots.GuestRoot.{GuestRoot}
use Rattle.arch_defs.specs.declared.roots.GuestRoot.TheVariants as guest_root
use Rattle.arch_defs.specs.CachedEntries.{CanFill, filled}
use Rattle.arch_defs.specs.Frames.{Frames, LieIn, Only, joined, within}
use Rattle.arch_defs.specs.Layouts.{Layout, NamesEachOnce, no_part, space_frames}
use Rattle.guest_settings.specs.Limits.{most_entries}
use Rattle.guest_settings.specs.Needs.{tables_for}
use Rattle.arch_defs.specs.Roots.{is_root}
use Rattle.arch_defs.specs.Spaces.{Space, is_for}
use Rattle.shadow_space.specs.Folding.{Folded}
use Rattle.shadow_space.specs.Shadows.{AreZeros, Tidy, root_of}
use Rattle.shadow_pool.specs.declared.slots.Slot.{Slot}

-- whether a table is for a value of hgatp
abbrev pub key_is : GuestRoot → Option GuestRoot → Bool
key_is key None = false
key_is key (Some other) = is_root other key

abbrev pub has_key : GuestRoot → Slot → Bool
has_key key slot = key_is key slot.key

-- the space that a table has, if it is for a value of hgatp
abbrev pub space_if : Option GuestRoot → List Entry → Option Space
space_if None entries = None
space_if (Some key) entries = Some (record { key = key; entries = entries })

abbrev pub space_of : Slot → Option Space
space_of slot = space_if slot.key slot.space.entries

-- the spaces that tables have
abbrev pub spaces_in : List Slot → List Space
spaces_in slots = filter_map (λ slot. space_of slot) slots

-- whether a table is in no use
abbrev pub is_spare : Slot → Bool
is_spare slot = is_none slot.key

-- a space is for a value of hgatp
abbrev pub HasSpaceFor : GuestRoot → List Space → Type 0
HasSpaceFor key [] = ⊥
HasSpaceFor key (s ∷ ss) = (is_for key s ≡ true) ⊎ HasSpaceFor key ss

-- an entry is filled into the space for a value of hgatp, with room for that many
abbrev pub filled_for : GuestRoot → ℕ → List Space → Entry → List Space
filled_for key most [] e = []
filled_for key most (s ∷ ss) e =
    if is_for key s then record s { entries = filled most s.entries e } ∷ ss else s ∷ filled_for key most ss e

-- the space of a number, the front one's being 0
abbrev pub no_space : Space
no_space = record { key = guest_root.Bare; entries = [] }

abbrev pub space_at : List Space → ℕ → Space
space_at spaces i = slice_index_or spaces i no_space

-- the frame of the first table's root
abbrev pub front_root : List Slot → ℕ
front_root [] = 0
front_root (slot ∷ slots) = root_of slot.space

-- the frames that a part has for the tables of that many spaces
abbrev pub table_frames_for : Layout → ℕ → Frames
table_frames_for part count =
    joined (within (part.first_root + 4) (4 * count))
    (within (part.first_table + 1) (count * tables_for part.entries))

-- each table is tidy, and folded
abbrev pub AreTidy : List Slot → List ℕ → Type 0
AreTidy slots memory = All (λ slot. Tidy slot.space memory) slots

abbrev pub AreFolded : List Slot → List ℕ → Type 0
AreFolded slots memory = All (λ slot. Folded slot.space memory) slots

-- a table of a part, with one of the first numbers and room for that many entries
pub record IsSlot (layout : Layout) (room count : ℕ) (slot : Slot) : Type 0 where
  pub part : slot.space.part ≡ layout
  pub most : slot.space.most ≡ room
  pub index : slot.space.index < count

-- two tables have different numbers and different values of hgatp, and those without one come last
pub record ComesBefore (a b : Slot) : Type 0 where
  pub index : a.space.index ≢ b.space.index
  pub key : (key : GuestRoot) → has_key key a ≡ true → has_key key b ≡ false
  pub spare : a.key ≡ None → b.key ≡ None

-- the tables of a pool: at least one, and no more than the part has spaces
pub record AreSlots (part : Layout) (most : ℕ) (slots : List Slot) : Type 0 where
  pub some : 1 ≤ length slots
  pub own : length slots ≤ part.spaces
  pub once : NamesEachOnce part
  pub each : All (IsSlot part most (length slots)) slots
  pub order : AllPairs ComesBefore slots

-- the part that tables are of, and room for how many entries each has: as the first of them
abbrev pub part_of : List Slot → Layout
part_of [] = no_part
part_of (slot ∷ slots) = slot.space.part

abbrev pub most_of : List Slot → ℕ
most_of [] = 0
most_of (slot ∷ slots) = slot.space.most

-- tables of one pool
abbrev pub ArePooled : List Slot → Type 0
ArePooled slots = AreSlots (part_of slots) (most_of slots) slots

-- a part can have that many spaces, and at least one, with room for that many entries each
pub record CanHaveSpaces (part : Layout) (spaces entries : ℕ) : Type 0 where
  pub some : 1 ≤ spaces
  pub own : spaces ≤ part.spaces
  pub few : entries ≤ most_entries
  pub room : entries ≤ part.entries

-- a pool: the guest's part, at most how many entries a space has, and a table for each space that there may
-- be
pub record Pooled : Type 0 where
  pub part : Layout
  pub most : ℕ
  pub slots : List Slot

-- the pool of these tables
abbrev pub pool_of : List Slot → Pooled
pool_of slots = record { part = part_of slots; most = most_of slots; slots = slots }

-- its spaces, the most recently entered first, and how many there may be
abbrev pub spaces_of : Pooled → List Space
spaces_of pool = spaces_in pool.slots

abbrev pub room_of : Pooled → ℕ
room_of pool = length pool.slots

-- its frames
abbrev pub pool_frames : Pooled → Frames
pool_frames pool = table_frames_for pool.part (room_of pool)

-- each of its tables is tidy
pub record TidyPool (pool : Pooled) (memory : List ℕ) : Type 0 where
  pub slots : AreSlots pool.part pool.most pool.slots
  pub tables : AreTidy pool.slots memory

-- memory has the table of each of its spaces: it is tidy, and gives the entries
pub record FoldedPool (pool : Pooled) (memory : List ℕ) : Type 0 where
  pub tidy : TidyPool pool memory
  pub folded : AreFolded pool.slots memory

-- an entry can be filled into the space for a value of hgatp
pub record CanFillFor (key : GuestRoot) (pool : Pooled) (e : Entry) : Type 0 where
  pub held : HasSpaceFor key (spaces_of pool)
  pub entry : CanFill pool.part.blocks e

-- what no call changes: a pool's part, its room, and memory but for the bytes of its own frames
pub record KeepsPool (old : Pooled) (memory : List ℕ) (new : Pooled) (changed : List ℕ) : Type 0 where
  pub part : new.part ≡ old.part
  pub most : new.most ≡ old.most
  pub room : room_of new ≡ room_of old
  pub only : Only (pool_frames old) memory changed

-- a new table of a part, by its number: it is tidy in memory in which its frames are zeros
pub record IsSpare (layout : Layout) (room number : ℕ) (slot : Slot) : Type 0 where
  pub key : slot.key ≡ None
  pub part : slot.space.part ≡ layout
  pub most : slot.space.most ≡ room
  pub index : slot.space.index ≡ number
  pub tidy : (memory : List ℕ) → LieIn (space_frames layout number) (length memory)
      → AreZeros (space_frames layout number) memory → Tidy slot.space memory

-- the first tables of a part
pub record AreSpare (part : Layout) (most count : ℕ) (slots : List Slot) : Type 0 where
  pub number : length slots ≡ count
  pub each : (k : ℕ) (d : Slot) → k < length slots → IsSpare part most k (slice_index_or slots k d)
