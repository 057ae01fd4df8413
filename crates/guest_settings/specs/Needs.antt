-- What a guest needs of machine memory (own).
use Rattle.std.specs.Prelude.{ℕ, ◌+◌, ◌*◌, ◌≤◌}
use Rattle.guest_settings.specs.declared.guests.GuestSpec.{GuestSpec}
use Rattle.guest_settings.specs.declared.needs.Need.{Need}
use Rattle.guest_settings.specs.Limits.{most_blocks, most_entries, most_spaces}

-- the tables below the root of a space that may have that many entries: an entry needs at most one on each
-- level below the root's
abbrev pub tables_for : ℕ → ℕ
tables_for entries = 3 * entries

-- its blocks of 512 frames; the four frames of the host table's root and the one of its other table; and for
-- each space the four frames of its root and those of its other tables
abbrev pub frames_needed : Need → ℕ
frames_needed need = 512 * need.blocks + 5 + need.spaces * (4 + tables_for need.entries)

-- its blocks, its spaces and the entries in each are within the limits
pub record IsNeed (need : Need) : Type 0 where
  pub blocks : need.blocks ≤ most_blocks
  pub spaces : need.spaces ≤ most_spaces
  pub entries : need.entries ≤ most_entries

-- the most frames that are such a need
abbrev pub most_needed : ℕ
most_needed = 512 * most_blocks + 5 + most_spaces * (4 + tables_for most_entries)

-- what a guest needs: its RAM in blocks, and tables for that many cached spaces of at most that many entries
-- each
abbrev pub need_of : GuestSpec → Need
need_of guest = record { blocks = guest.blocks; spaces = guest.spaces; entries = guest.entries }
