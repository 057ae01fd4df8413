-- A block of a guest's RAM that moves to another block of machine memory.
use Rattle.std.specs.Prelude.{ℕ, ◌*◌, List, [], slice_set}
use Rattle.arch_defs.specs.Layouts.{Layout}
use Rattle.arch_defs.specs.Memory.{block_size, pasted, zeros}
use Rattle.phys_mem.specs.MemoryBytes.{block_of}

-- the part with another block in the place of its block i
abbrev pub with_block : Layout → ℕ → ℕ → Layout
with_block part i block = record part { blocks = slice_set part.blocks i block }

-- the part with its tables alone
abbrev pub without_blocks : Layout → Layout
without_blocks part = record part { blocks = [] }

-- memory where a block has the bytes of another one
unfoldable pub block_copied : ℕ → ℕ → List ℕ → List ℕ
block_copied from to memory = pasted memory (to * block_size) (block_of from memory)

-- memory where a block is zeros
unfoldable pub block_cleared : ℕ → List ℕ → List ℕ
block_cleared block memory = pasted memory (block * block_size) (zeros block_size)
