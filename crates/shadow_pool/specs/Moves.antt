-- A pool of a guest whose RAM moves to other blocks.
use Rattle.std.specs.Prelude.{◌≡◌, map}
use Rattle.arch_defs.specs.Layouts.{Layout}
use Rattle.shadow_space.specs.Moves.{in_part}
use Rattle.shadow_pool.specs.declared.slots.Slot.{Slot}
use Rattle.shadow_pool.specs.Slots.{Pooled, front_root, spaces_of}

-- a table whose space has another part
abbrev pub slot_in_part : Layout → Slot → Slot
slot_in_part part slot = record slot { space = in_part part slot.space }

-- the pool of these tables
abbrev pub pool_in_part : Layout → Pooled → Pooled
pool_in_part part pool = record pool { part = part; slots = map (slot_in_part part) pool.slots }

-- a pool has another part: its spaces and the root of the front one are the same
pub record IsMovedPool (part : Layout) (old new : Pooled) : Type 0 where
  pub pool : new ≡ pool_in_part part old
  pub spaces : spaces_of new ≡ spaces_of old
  pub root : front_root new.slots ≡ front_root old.slots
