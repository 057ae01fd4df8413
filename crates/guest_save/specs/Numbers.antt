-- Numbers of eight bytes, little endian (own), and lists of items of one size.
use Rattle.std.specs.Prelude.{ℕ, zero, suc, List, [], ◌∷◌, length, take, drop, nat_le, if◌then◌else◌}
use Rattle.std.specs.List.{flat_map}
use Rattle.std.specs.Int.{from_le_bytes, to_le_bytes, w64}

unfoldable pub number_bytes : ℕ → List ℕ
number_bytes n = to_le_bytes w64 n

abbrev pub numbers : List ℕ → List ℕ
numbers ns = flat_map number_bytes ns

-- the number that bytes begin with; 0 where there are fewer than eight
unfoldable pub number_in : List ℕ → ℕ
number_in bytes = if nat_le 8 (length bytes) then from_le_bytes w64 (take 8 bytes) else 0

-- that many items, each of which is read of the bytes that it begins, and is of that many bytes
unfoldable pub items_in : {A : Type 0} → (List ℕ → A) → ℕ → ℕ → List ℕ → List A
items_in item size zero bytes = []
items_in item size (suc count) bytes = item bytes ∷ items_in item size count (drop size bytes)

-- the numbers that bytes begin with, that many
abbrev pub leading_numbers : ℕ → List ℕ → List ℕ
leading_numbers count bytes = items_in number_in 8 count bytes
