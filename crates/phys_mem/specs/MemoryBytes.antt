-- Numbers in memory, little endian. A place outside has none. And the frames that memory is of.
use Rattle.std.specs.Prelude.{ℕ, ◌≡◌, ◌+◌, ◌-◌, ◌*◌, ◌%◌, ◌⊎◌, Bool, ◌&&◌, List, Option, Some, None, length, take, drop, nat_le, if◌then◌else◌}
use Rattle.std.specs.List.{All}
use Rattle.byteorder.specs.Endian.{little_bytes}
use Rattle.arch_defs.specs.Memory.{Memory, block_size, load, pasted}

-- the widths of an access, in bytes
abbrev pub IsWidth : ℕ → Type 0
IsWidth n = (n ≡ 1) ⊎ (n ≡ 2) ⊎ (n ≡ 4) ⊎ (n ≡ 8)

-- that many bytes from a place on are in memory
abbrev pub is_inside : Memory → ℕ → ℕ → Bool
is_inside memory at n = nat_le memory.base at && nat_le (at + n) (memory.base + length memory.bytes)

-- the number of that many bytes at a place
abbrev pub number_at : Memory → ℕ → ℕ → Option ℕ
number_at memory at n =
    if is_inside memory at n then Some (load memory.bytes (at - memory.base) n) else None

-- the bytes after the low bytes of a value were written to a place
abbrev pub bytes_with : Memory → ℕ → ℕ → ℕ → List ℕ
bytes_with memory at n value =
    if is_inside memory at n then pasted memory.bytes (at - memory.base) (little_bytes n value)
    else memory.bytes

-- memory is of whole frames
pub record IsWhole (memory : Memory) : Type 0 where
  pub aligned : memory.base % 4096 ≡ 0
  pub size : length memory.bytes % 4096 ≡ 0

-- the bytes of a frame
abbrev pub frame_of : ℕ → List ℕ → List ℕ
frame_of n bytes = take 4096 (drop (n * 4096) bytes)

-- the bytes of a block
abbrev pub block_of : ℕ → List ℕ → List ℕ
block_of n bytes = take block_size (drop (n * block_size) bytes)

-- frames of that many bytes each
abbrev pub AreWhole : ℕ → List (List ℕ) → Type 0
AreWhole n frames = All (λ frame. length frame ≡ n) frames
