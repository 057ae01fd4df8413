-- Numbers in packets: digits, the highest first (manual of gdb, "Packets" of the remote protocol).
use Rattle.std.specs.Prelude.{ℕ, ◌+◌, ◌*◌, ◌^◌, ◌&&◌, nat_lt, List, [], ◌∷◌, Option, Some, None, if◌then◌else◌}
use Rattle.gdb_packets.specs.Digits.{digit_value}

-- a number with a digit more, where the digit is below the base and the number was below a bound
abbrev pub with_digit : ℕ → ℕ → ℕ → Option ℕ → Option ℕ
with_digit base most n (Some digit) =
    if nat_lt n most && nat_lt digit base then Some (base * n + digit) else None
with_digit base most n None = None

abbrev pub longer : ℕ → ℕ → Option ℕ → ℕ → Option ℕ
longer base most (Some n) byte = with_digit base most n (digit_value byte)
longer base most None byte = None

-- a number with the digits of these bytes
unfoldable pub digits_with : ℕ → ℕ → Option ℕ → List ℕ → Option ℕ
digits_with base most n [] = n
digits_with base most n (byte ∷ bytes) = digits_with base most (longer base most n byte) bytes

-- the number of bytes, of which there is one at least
abbrev pub digits_in : ℕ → ℕ → List ℕ → Option ℕ
digits_in base most [] = None
digits_in base most (byte ∷ bytes) = digits_with base most (Some 0) (byte ∷ bytes)

-- of 64 bits, in digits to the base 16; and below 10^15, to the base 10
abbrev pub hex_in : List ℕ → Option ℕ
hex_in bytes = digits_in 16 (2 ^ 60) bytes

abbrev pub decimal_in : List ℕ → Option ℕ
decimal_in bytes = digits_in 10 (10 ^ 14) bytes
