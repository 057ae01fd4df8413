-- A guest's RAM as a function of machine memory: its blocks, one after the other.
use Rattle.std.specs.Prelude.{ℕ, ◌≡◌, ◌+◌, ◌-◌, ◌*◌, ◌/◌, ◌%◌, ◌<◌, ◌≤◌, ◌&&◌, List, [], ◌∷◌, ◌++◌, Option, Some, None, length, take, drop, slice_index, nat_le, nat_lt, if◌then◌else◌}
use Rattle.arch_defs.specs.Memory.{ram_base, block_size}

-- the slices of that many bytes with these numbers, one after the other
unfoldable pub slices : ℕ → List ℕ → List ℕ → List ℕ
slices size [] memory = []
slices size (n ∷ ns) memory = take size (drop (n * size) memory) ++ slices size ns memory

-- where in memory an offset into these slices is
abbrev pub place_in : ℕ → List ℕ → ℕ → ℕ
place_in size ns offset = slice_index ns (offset / size) * size + offset % size

-- all of these slices lie in memory
abbrev pub SlicesLieIn : ℕ → List ℕ → ℕ → Type 0
SlicesLieIn size ns most = (i : ℕ) → i < length ns → slice_index ns i * size + size ≤ most

-- no number comes twice
abbrev pub IsDistinct : List ℕ → Type 0
IsDistinct ns = (i j : ℕ) → i < length ns → j < length ns → slice_index ns i ≡ slice_index ns j → i ≡ j

-- the RAM that these blocks of machine memory are
abbrev pub ram_of : List ℕ → List ℕ → List ℕ
ram_of blocks memory = slices block_size blocks memory

-- the place in machine memory of an offset into that RAM
abbrev pub host_place : List ℕ → ℕ → ℕ
host_place blocks offset = place_in block_size blocks offset

-- the place in machine memory of a guest physical address, where RAM has it
abbrev pub host_answer : List ℕ → ℕ → Option ℕ
host_answer blocks address =
    if nat_le ram_base address && nat_lt address (ram_base + length blocks * block_size)
    then Some (host_place blocks (address - ram_base)) else None
