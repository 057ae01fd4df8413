-- The leaves of a space's pages.
use Rattle.std.specs.Prelude.{ℕ, ◌-◌, ◌*◌, ◌/◌, List, Option, Some, None, if◌then◌else◌}
use Rattle.arch_defs.specs.declared.cached.Entry.{Entry}
use Rattle.arch_defs.specs.declared.walks.Pte.{Pte}
use Rattle.arch_defs.specs.CachedEntries.{entry_at, is_device}
use Rattle.arch_defs.specs.Memory.{ram_base}
use Rattle.arch_defs.specs.Ram.{host_place}
use Rattle.arch_defs.specs.TableEntries.{leaf_to, pte_word}

-- the frame of machine memory that a frame of RAM is
abbrev pub frame_of_ram : List ℕ → ℕ → ℕ
frame_of_ram blocks frame = host_place blocks (frame * 4096 - ram_base) / 4096

-- an entry's leaf: the frame is the host's, R and X are as the entry has them, W and D both as its w
abbrev pub leaf_parts : List ℕ → Entry → Pte
leaf_parts blocks e = leaf_to (frame_of_ram blocks e.frame) e.r e.w e.x

-- an entry of the device page has none, so that each access to this page leaves the hart
abbrev pub leaf_word : List ℕ → Entry → ℕ
leaf_word blocks e = if is_device e then 0 else pte_word (leaf_parts blocks e)

abbrev pub leaf_word_if : List ℕ → Option Entry → ℕ
leaf_word_if blocks None = 0
leaf_word_if blocks (Some e) = leaf_word blocks e

-- the leaf of each page
unfoldable pub leaves : List ℕ → List Entry → ℕ → ℕ
leaves blocks entries page = leaf_word_if blocks (entry_at page entries)
