-- A guest's part: the frames of machine memory that it has.
use Rattle.std.specs.Prelude.{ℕ, ◌≡◌, ◌+◌, ◌*◌, ◌%◌, ◌≤◌, Bool, true, not, ◌&&◌, ◌||◌, ◌==◌, nat_le, List, [], ◌∷◌, length}
use Rattle.std.specs.List.{list_any, list_all}
use Rattle.arch_defs.specs.Frames.{Frames, within, in_blocks, joined, Apart}
use Rattle.arch_defs.specs.Ram.{IsDistinct}
use Rattle.guest_settings.specs.declared.needs.Need.{Need}
use Rattle.guest_settings.specs.Limits.{most_blocks}
use Rattle.guest_settings.specs.Needs.{tables_for}

-- its blocks, in the order in which its RAM goes through them; the first frame of its roots, and that of its
-- other tables; how many cached spaces it has, and at most how many entries each
pub record Layout : Type 0 where
  pub blocks : List ℕ
  pub first_root : ℕ
  pub first_table : ℕ
  pub spaces : ℕ
  pub entries : ℕ

-- a part without frames
unfoldable pub no_part : Layout
no_part = record { blocks = []; first_root = 0; first_table = 0; spaces = 0; entries = 0 }

-- the frames of its roots, four each (Privileged Architecture 20211203, 8.5.1): the host table's, and one for
-- each space
abbrev pub root_frames : Layout → Frames
root_frames part = within part.first_root (4 * (1 + part.spaces))

-- the frames of its other tables: one of the host table's, and those of each space
abbrev pub table_frames : Layout → Frames
table_frames part = within part.first_table (1 + part.spaces * tables_for part.entries)

-- all frames of its tables
abbrev pub in_tables : Layout → Frames
in_tables part = joined (root_frames part) (table_frames part)

-- all of its frames
abbrev pub named_by : Layout → Frames
named_by part = joined (in_blocks part.blocks) (in_tables part)

-- the frames of its host table
abbrev pub host_frames : Layout → Frames
host_frames part = joined (within part.first_root 4) (within part.first_table 1)

-- the frames of the tables of one of its spaces
abbrev pub space_frames : Layout → ℕ → Frames
space_frames part i =
    joined (within (part.first_root + 4 * (1 + i)) 4) (within (part.first_table + 1
    + i * tables_for part.entries) (tables_for part.entries))

-- a guest may have that many blocks, the roots begin at a multiple of four frames, and no frame is named
-- twice
pub record NamesEachOnce (part : Layout) : Type 0 where
  pub few : length part.blocks ≤ most_blocks
  pub distinct : IsDistinct part.blocks
  pub aligned : part.first_root % 4 ≡ 0
  pub tables : Apart (in_blocks part.blocks) (in_tables part)
  pub roots : Apart (root_frames part) (table_frames part)

-- a test of this on written lists: each block apart from all later ones and from both ranges, and these from
-- each other
abbrev pub are_distinct : List ℕ → Bool
are_distinct [] = true
are_distinct (n ∷ ns) = not (list_any (λ m. m == n) ns) && are_distinct ns

abbrev pub ranges_are_apart : ℕ → ℕ → ℕ → ℕ → Bool
ranges_are_apart a m b n = nat_le (a + m) b || nat_le (b + n) a

abbrev pub blocks_are_apart : List ℕ → ℕ → ℕ → Bool
blocks_are_apart blocks first count =
    list_all (λ block. ranges_are_apart (block * 512) 512 first count) blocks

abbrev pub names_each_once : Layout → Bool
names_each_once part =
    (nat_le (length part.blocks) 32 && are_distinct part.blocks)
    && (part.first_root % 4 == 0
    && ((blocks_are_apart part.blocks part.first_root (4 * (1 + part.spaces))
    && blocks_are_apart part.blocks part.first_table (1 + part.spaces * tables_for part.entries))
    && ranges_are_apart part.first_root (4 * (1 + part.spaces)) part.first_table (1
    + part.spaces * tables_for part.entries)))

-- a part is of the size that is needed
pub record Meets (need : Need) (part : Layout) : Type 0 where
  pub blocks : length part.blocks ≡ need.blocks
  pub spaces : part.spaces ≡ need.spaces
  pub entries : part.entries ≡ need.entries
