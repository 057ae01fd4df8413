-- A file of inputs: records of nine bytes, each a moment and a byte.
use Rattle.std.specs.Prelude.{ℕ, zero, suc, ◌*◌, ◌^◌, nat_eq, nat_le, nat_lt, Bool, ◌||◌, List, length, map, take, drop, find, Option}
use Rattle.std.specs.Int.{div_ceil, from_le_bytes, w64}
use Rattle.std.specs.List.{range_with_len, slice_index}
use Rattle.guest_settings.specs.Limits.{most_inputs}

-- how many records the bytes are: one for each nine of them, and one for what is left at the end
unfoldable pub record_count : List ℕ → ℕ
record_count bytes = div_ceil (length bytes) 9

-- a record by its number: nine bytes, and fewer where the bytes end
unfoldable pub record_at : List ℕ → ℕ → List ℕ
record_at bytes number = take 9 (drop (9 * number) bytes)

-- its moment, the first eight bytes, little endian (own)
unfoldable pub moment_at : List ℕ → ℕ → ℕ
moment_at bytes number = from_le_bytes w64 (record_at bytes number)

-- its byte, the last of the nine (own)
unfoldable pub record_byte : List ℕ → ℕ → ℕ
record_byte bytes number = slice_index (record_at bytes number) 8

-- the moment of the record before, and 0 before the first one
unfoldable pub moment_before : List ℕ → ℕ → ℕ
moment_before bytes zero = 0
moment_before bytes (suc number) = moment_at bytes number

-- a record is bad that has fewer than nine bytes, or a moment of 2^62 or more or less than the one before, or
-- that is one too many (own)
unfoldable pub is_bad : List ℕ → ℕ → Bool
is_bad bytes number =
    nat_lt (length (record_at bytes number)) 9
    || nat_le (2 ^ 62) (moment_at bytes number)
    || nat_lt (moment_at bytes number) (moment_before bytes number)
    || nat_eq number most_inputs

-- the least number of a bad record
unfoldable pub bad_record : List ℕ → Option ℕ
bad_record bytes = find (is_bad bytes) (range_with_len 0 (record_count bytes))

-- the moment and the byte of each record
unfoldable pub records_of : List ℕ → List (ℕ × ℕ)
records_of bytes =
    map (λ number. (moment_at bytes number, record_byte bytes number)) (range_with_len 0 (record_count bytes))
