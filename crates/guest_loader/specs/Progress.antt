-- RAM of which the first blocks are as they are to be.
use Rattle.std.specs.Prelude.{ℕ, ◌≡◌, ◌*◌, List, ◌++◌, length, take, drop}
use Rattle.arch_defs.specs.Frames.{Only, in_blocks}
use Rattle.arch_defs.specs.Memory.{block_size, loaded, zeros}
use Rattle.arch_defs.specs.Ram.{ram_of}

-- that many blocks are zeros, and the others are as they were; nothing else in memory changed
pub record IsClearedUpTo (blocks : List ℕ) (done : ℕ) (old new : List ℕ) : Type 0 where
  pub ram : ram_of blocks new
      ≡ take (done * block_size) (zeros (length blocks * block_size))
      ++ drop (done * block_size) (ram_of blocks old)
  pub only : Only (in_blocks blocks) old new

-- that many blocks are those of the image, and the others zeros; nothing else in memory changed
pub record IsLoadedUpTo (blocks : List ℕ) (image : List ℕ) (done : ℕ) (old new : List ℕ) : Type 0 where
  pub ram : ram_of blocks new ≡ loaded (length blocks * block_size) (take (done * block_size) image)
  pub only : Only (in_blocks blocks) old new
