-- Bytes as digits (manual of gdb, "Overview" of the remote protocol: two hexadecimal digits, the high one
-- first). What is written has small letters; either case is read.
use Rattle.std.specs.Prelude.{ℕ, ◌+◌, ◌-◌, ◌*◌, ◌/◌, ◌%◌, Bool, ◌&&◌, nat_le, nat_lt, List, [], ◌∷◌, Option, Some, None, if◌then◌else◌}
use Rattle.std.specs.List.{flat_map}

-- the digit of a number below 16
unfoldable pub digit : ℕ → ℕ
digit n = if nat_lt n 10 then 48 + n else 87 + n

abbrev pub byte_digits : ℕ → List ℕ
byte_digits n = digit (n / 16) ∷ digit (n % 16) ∷ []

abbrev pub hex : List ℕ → List ℕ
hex bytes = flat_map byte_digits bytes

abbrev pub is_among : ℕ → ℕ → ℕ → Bool
is_among first last c = nat_le first c && nat_le c last

-- the value of a digit; nothing of another byte
unfoldable pub digit_value : ℕ → Option ℕ
digit_value c =
    if is_among 48 57 c then Some (c - 48)
    else if is_among 97 102 c then Some (c - 87)
    else if is_among 65 70 c then Some (c - 55)
    else None

abbrev pub both_values : Option ℕ → Option ℕ → Option ℕ
both_values (Some high) (Some low) = Some (16 * high + low)
both_values (Some high) None = None
both_values None low = None

-- the byte that two digits give
abbrev pub pair_value : ℕ → ℕ → Option ℕ
pair_value high low = both_values (digit_value high) (digit_value low)

-- a byte before bytes, if both are there
abbrev pub before : Option ℕ → Option (List ℕ) → Option (List ℕ)
before (Some byte) (Some bytes) = Some (byte ∷ bytes)
before (Some byte) None = None
before None bytes = None

-- the bytes that digits give
unfoldable pub unhex : List ℕ → Option (List ℕ)
unhex [] = Some []
unhex (high ∷ []) = None
unhex (high ∷ low ∷ digits) = before (pair_value high low) (unhex digits)
