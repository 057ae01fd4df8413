-- What a move of a block, and the retirement of a guest, leave of a host.
use Rattle.std.specs.Prelude.{ℕ, ◌≡◌, ◌+◌, ◌<◌, true, false, List, [], ◌∷◌, length, slice_index, slice_set}
use Rattle.arch_defs.specs.Frames.{Only, in_blocks, joined}
use Rattle.arch_defs.specs.Layouts.{named_by}
use Rattle.machine_defs.specs.Machine.{Machine}
use Rattle.shadow_space.specs.Shadows.{AreZeros}
use Rattle.block_moves.specs.Moves.{with_block, without_blocks}
use Rattle.guest_exit.specs.declared.guests.Guest.{Guest}
use Rattle.guest_exit.specs.View.{machine_of}
use Rattle.guest_turns.specs.Hosting.{IsHosted}
use Rattle.guest_turns.specs.Hosted.{Hosted, IsActive, count_set, part_at, with_free}
use Rattle.guest_turns.specs.TurnLists.{updated}

-- the number of a block of a guest in machine memory
abbrev pub block_at : Hosted → ℕ → ℕ → ℕ
block_at host g block = slice_index (part_at host.parts g).blocks block

-- a guest of a host has not retired, and has a block of this number
pub record HasBlock (host : Hosted) (g i : ℕ) : Type 0 where
  pub guest : IsActive host g
  pub block : i < length (part_at host.parts g).blocks

-- block i of a guest is another block of memory now. Its lone machine is the same, the old block is zeros,
-- and nothing else of memory has changed, but in the guest's part
pub record IsShifted (old : Guest) (memory : List ℕ) (i to : ℕ) (new : Guest) (changed : List ℕ)
    : Type 0 where
  pub hosted : IsHosted new changed
  pub part : new.part ≡ with_block old.part i to
  pub machine : machine_of new changed ≡ machine_of old memory
  pub zeros : AreZeros (in_blocks (slice_index old.part.blocks i ∷ [])) changed
  pub only : Only (joined (named_by old.part) (in_blocks (to ∷ []))) memory changed

-- a block of the guest g is another block of memory now. Every lone machine is the same; the old block is
-- zeros, and free in place of the new one; and nothing else of memory has changed, but in the guest's part
pub record HasMoved (old : Hosted) (g block to : ℕ) (new : Hosted) : Type 0 where
  pub machines : new.machines ≡ old.machines
  pub retired : new.retired ≡ old.retired
  pub parts : new.parts ≡ updated g (λ part. with_block part block to) old.parts
  pub free : new.free ≡ with_free (block_at old g block ∷ []) (slice_set old.free to false)
  pub count : count_set new.free ≡ count_set old.free
  pub zeros : AreZeros (in_blocks (block_at old g block ∷ [])) new.memory
  pub only : Only (joined (named_by (part_at old.parts g)) (in_blocks (to ∷ []))) old.memory new.memory

-- a machine without RAM
abbrev pub emptied : Machine → Machine
emptied m = record m { ram = [] }

-- the guest g has retired: its machine has no RAM, and its part no blocks; these are zeros, and free. Nothing
-- else of memory has changed
pub record HasRetired (old : Hosted) (g : ℕ) (new : Hosted) : Type 0 where
  pub machines : new.machines ≡ updated g emptied old.machines
  pub retired : new.retired ≡ slice_set old.retired g true
  pub parts : new.parts ≡ updated g without_blocks old.parts
  pub free : new.free ≡ with_free (part_at old.parts g).blocks old.free
  pub count : count_set new.free ≡ count_set old.free + length (part_at old.parts g).blocks
  pub zeros : AreZeros (in_blocks (part_at old.parts g).blocks) new.memory
  pub only : Only (in_blocks (part_at old.parts g).blocks) old.memory new.memory
