-- A space of a guest whose RAM moves to other blocks.
use Rattle.std.specs.Prelude.{◌≡◌, length}
use Rattle.arch_defs.specs.Layouts.{Layout}
use Rattle.shadow_space.specs.Shadows.{Shadow}

-- a part that differs from the old one in the numbers of its blocks alone, of which it has as many
pub record IsMovedPart (old new : Layout) : Type 0 where
  pub others : new ≡ record old { blocks = new.blocks }
  pub number : length new.blocks ≡ length old.blocks

-- the space with another part: its number, its room, its list and the frames of its tables are the same
abbrev pub in_part : Layout → Shadow → Shadow
in_part part space = record space { part = part }
