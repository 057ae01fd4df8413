-- Memory as the present mode has it, as digits.
use Rattle.std.specs.Prelude.{ℕ, zero, suc, ◌+◌, ◌%◌, ◌^◌, List, [], ◌∷◌, map, slice_index, nat_le, Option, Some, None, if◌then◌else◌}
use Rattle.machine_defs.specs.Machine.{Machine}
use Rattle.gdb_packets.specs.Digits.{hex}
use Rattle.run_positions.specs.Looks.{offset_of}
use Rattle.gdb_stub.specs.Registers.{error_text}

-- an offset into RAM, before others; nothing where there is none
abbrev pub offset_before : Option ℕ → List ℕ → List ℕ
offset_before (Some offset) rest = offset ∷ rest
offset_before None rest = []

-- the offsets into RAM of that many bytes from an address on, up to the first that has no place
unfoldable pub offsets_in : Machine → ℕ → ℕ → List ℕ
offsets_in m address zero = []
offsets_in m address (suc n) = offset_before (offset_of m address) (offsets_in m ((address + 1) % 2 ^ 64) n)

-- at most that many bytes are shown or watched at once
abbrev pub most_shown : ℕ → ℕ
most_shown n = if nat_le n 1024 then n else 1024

-- the bytes at offsets into RAM
abbrev pub machine_byte : Machine → ℕ → ℕ
machine_byte m offset = slice_index m.ram offset

abbrev pub bytes_at : Machine → List ℕ → List ℕ
bytes_at m offsets = map (machine_byte m) offsets

abbrev pub bytes_text : List ℕ → List ℕ
bytes_text [] = error_text
bytes_text (byte ∷ bytes) = hex (byte ∷ bytes)

abbrev pub memory_text : Machine → ℕ → ℕ → List ℕ
memory_text m address n = bytes_text (bytes_at m (offsets_in m address (most_shown n)))
