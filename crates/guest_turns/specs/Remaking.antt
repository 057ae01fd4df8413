-- How the spaces of a saved machine are made again: the last one first, each entered and then filled, its
-- oldest entry first (own).
use Rattle.std.specs.Prelude.{ℕ, ◌≡◌, List, ◌∷◌, length, take}
use Rattle.arch_defs.specs.Spaces.{Space}
use Rattle.guest_save.specs.Headers.{blocks_of}
use Rattle.machine_defs.specs.Machine.{Machine}
use Rattle.shadow_pool.specs.Slots.{KeepsPool, Pooled, TidyPool, room_of, spaces_of}

-- a pool has the room that a machine has, and is of a part with as many blocks
pub record FitsPool (m : Machine) (pool : Pooled) : Type 0 where
  pub blocks : length pool.part.blocks ≡ blocks_of m
  pub spaces : room_of pool ≡ m.space_room
  pub entries : pool.most ≡ m.entry_room

-- a pool has these spaces now, and is tidy, with what was kept of it and of machine memory
pub record IsRemade (old : Pooled) (memory : List ℕ) (made : List Space) (new : Pooled)
    (changed : List ℕ) : Type 0 where
  pub spaces : spaces_of new ≡ made
  pub keeps : KeepsPool old memory new changed
  pub tidy : TidyPool new changed

-- a space with its first k entries, in front of others
abbrev pub partly : ℕ → Space → List Space → List Space
partly k s others = record s { entries = take k s.entries } ∷ others
