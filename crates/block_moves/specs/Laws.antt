-- Laws of a guest's RAM, block by block.
use Rattle.std.specs.Prelude.{ℕ, ◌≡◌, ◌≢◌, ◌+◌, ◌*◌, ◌<◌, ◌≤◌, List, [], ◌∷◌, length, slice_index, slice_set}
use Rattle.arch_defs.specs.Frames.{Same, in_blocks}
use Rattle.arch_defs.specs.Memory.{block_size}
use Rattle.arch_defs.specs.Ram.{ram_of}
use Rattle.phys_mem.specs.MemoryBytes.{block_of}

-- RAM is the same where one of its blocks is another one, which has that one's bytes, and all others have
-- theirs
abbrev pub RamMoves : Type 0
RamMoves = (blocks old new : List ℕ) (i to : ℕ) → i < length blocks
    → block_of to new ≡ block_of (slice_index blocks i) old
    → ((j : ℕ) → j < length blocks → j ≢ i
    → block_of (slice_index blocks j) new ≡ block_of (slice_index blocks j) old)
    → ram_of (slice_set blocks i to) new ≡ ram_of blocks old

-- a block has its bytes where its frames do
abbrev pub BlockStays : Type 0
BlockStays = (block : ℕ) (old new : List ℕ) → block * block_size + block_size ≤ length old
    → Same (in_blocks (block ∷ [])) old new → block_of block new ≡ block_of block old
