-- Laws of frames, and of a guest's RAM in machine memory.
use Rattle.std.specs.Prelude.{ℕ, ◌≡◌, ◌+◌, ◌*◌, ◌/◌, ◌%◌, ◌<◌, ◌≤◌, true, List, length}
use Rattle.arch_defs.specs.Memory.{block_size, load, pasted}
use Rattle.arch_defs.specs.Frames.{Frames, in_blocks, Apart, Only, Same}
use Rattle.arch_defs.specs.Ram.{ram_of, host_place, SlicesLieIn, IsDistinct}

-- frames apart from those that changed are the same
abbrev pub FramesApartStay : Type 0
FramesApartStay =
    (named changed : Frames) (old new : List ℕ) → Apart named changed → Only changed old new
    → Same named old new

-- RAM is as long as its blocks
abbrev pub RamHasItsSize : Type 0
RamHasItsSize =
    (blocks memory : List ℕ) → SlicesLieIn block_size blocks (length memory)
    → length (ram_of blocks memory) ≡ length blocks * block_size

-- each place of RAM lies in a frame of its blocks, and no other offset has it
abbrev pub PlacesAreInBlocks : Type 0
PlacesAreInBlocks =
    (blocks : List ℕ) (offset : ℕ) → offset < length blocks * block_size
    → in_blocks blocks (host_place blocks offset / 4096) ≡ true

abbrev pub PlacesAreApart : Type 0
PlacesAreApart =
    (blocks : List ℕ) (a b : ℕ) → IsDistinct blocks → a < length blocks * block_size
    → b < length blocks * block_size
    → host_place blocks a ≡ host_place blocks b → a ≡ b

-- a number of RAM that lies in one block is read at its place in memory
abbrev pub RamReads : Type 0
RamReads = (blocks memory : List ℕ) (offset n : ℕ) → SlicesLieIn block_size blocks (length memory)
    → offset + n ≤ length blocks * block_size → offset % block_size + n ≤ block_size
    → load (ram_of blocks memory) offset n ≡ load memory (host_place blocks offset) n

-- and bytes laid over memory there are laid over RAM
abbrev pub RamWrites : Type 0
RamWrites =
    (blocks memory : List ℕ) (offset : ℕ) (piece : List ℕ) → SlicesLieIn block_size blocks (length memory)
    → IsDistinct blocks
    → offset < length blocks * block_size → offset + length piece ≤ length blocks * block_size
    → offset % block_size + length piece ≤ block_size
    → ram_of blocks (pasted memory (host_place blocks offset) piece)
    ≡ pasted (ram_of blocks memory) offset piece

-- RAM is the same where the frames of its blocks are
abbrev pub RamStays : Type 0
RamStays =
    (blocks old new : List ℕ) → SlicesLieIn block_size blocks (length old) → Same (in_blocks blocks) old new
    → ram_of blocks new ≡ ram_of blocks old
