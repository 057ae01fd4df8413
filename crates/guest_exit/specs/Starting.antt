-- The spaces of a guest that has entered none yet.
use Rattle.std.specs.Prelude.{ℕ, ◌≡◌, ◌≤◌, List, [], length}
use Rattle.arch_defs.specs.Frames.{LieIn}
use Rattle.arch_defs.specs.Layouts.{Layout}
use Rattle.machine_defs.specs.Fills.{needed}
use Rattle.shadow_space.specs.Shadows.{AreZeros}
use Rattle.shadow_pool.specs.Slots.{Pooled, TidyPool, pool_frames, room_of, spaces_of}

-- a pool of a part, with room for at least one space and for the entries that an instruction asks for, is
-- tidy in memory in which the frames of its tables are zeros
pub record IsNewPool (layout : Layout) (pool : Pooled) : Type 0 where
  pub part : pool.part ≡ layout
  pub spaces : spaces_of pool ≡ []
  pub entries : needed ≤ pool.most
  pub room : 1 ≤ room_of pool
  pub few : room_of pool ≤ layout.spaces
  pub tidy : (memory : List ℕ) → LieIn (pool_frames pool) (length memory)
      → AreZeros (pool_frames pool) memory → TidyPool pool memory
