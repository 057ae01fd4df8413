-- Packets (manual of gdb, "Overview" of the remote protocol): `$`, the data, `#`, and two digits of the sum
-- of the data's bytes modulo 256.
use Rattle.std.specs.Prelude.{ℕ, ◌+◌, ◌-◌, ◌/◌, ◌%◌, Bool, ◌==◌, ◌||◌, nat_lt, List, [], ◌∷◌, ◌++◌, length, take, slice_index, Option, Some, None, option_map, if◌then◌else◌}
use Rattle.std.specs.List.{flat_map, position_or_len, sum}
use Rattle.gdb_packets.specs.Digits.{byte_digits, pair_value}
use Rattle.gdb_packets.specs.declared.messages.Message.{Message}
use Rattle.gdb_packets.specs.declared.messages.Message.TheVariants.{Packet, BadSum, BadEscape, Ack, Nack, Interrupt, Stray}
use Rattle.gdb_packets.specs.declared.messages.Received.{Received}

-- `$`, `#`, the escape `}`, and `*`, behind which a stub would write how often a byte is repeated
abbrev pub opening : ℕ
opening = 0x24

abbrev pub closing : ℕ
closing = 0x23

abbrev pub escape : ℕ
escape = 0x7D

-- a byte is sent behind the escape, with its bit 5 turned, where it would be read as one of these
abbrev pub is_special : ℕ → Bool
is_special b = b == closing || b == opening || b == 0x2A || b == escape

-- a byte with bit 5 turned
abbrev pub turned : ℕ → ℕ
turned b = if b / 32 % 2 == 0 then b + 32 else b - 32

unfoldable pub escaped_byte : ℕ → List ℕ
escaped_byte b = if is_special b then escape ∷ turned b ∷ [] else b ∷ []

abbrev pub escaped : List ℕ → List ℕ
escaped bytes = flat_map escaped_byte bytes

abbrev pub checksum : List ℕ → ℕ
checksum bytes = sum bytes % 256

-- data between its marks
abbrev pub marked : List ℕ → List ℕ
marked body = opening ∷ (body ++ closing ∷ byte_digits (checksum body))

-- the packet of a payload
abbrev pub framed : List ℕ → List ℕ
framed payload = marked (escaped payload)

abbrev pub put_before : ℕ → Option (List ℕ) → Option (List ℕ)
put_before b rest = option_map (λ (bytes : List ℕ). b ∷ bytes) rest

-- the payload of a packet's data; nothing where no byte stands behind an escape
unfoldable pub unescaped : List ℕ → Option (List ℕ)
unescaped [] = Some []
unescaped (b ∷ []) = if b == escape then None else Some (b ∷ [])
unescaped (b ∷ c ∷ rest) =
    if b == escape then put_before (turned c) (unescaped rest) else put_before b (unescaped (c ∷ rest))

-- a message of one byte: what acknowledges a packet or asks for it again, and what interrupts
abbrev pub single : ℕ → Message
single b = if b == 0x2B then Ack else if b == 0x2D then Nack else if b == 3 then Interrupt else Stray

abbrev pub message_of : Option (List ℕ) → Message
message_of (Some payload) = Packet payload
message_of None = BadEscape

-- whether two digits give this sum
abbrev pub is_sum : Option ℕ → ℕ → Bool
is_sum (Some given) sum = given == sum
is_sum None sum = Bool.false

-- the packet whose data are that many of these bytes, behind which its closing and its two digits stand
abbrev pub packet_at : ℕ → List ℕ → Message
packet_at n rest =
    if is_sum (pair_value (slice_index rest (n + 1)) (slice_index rest (n + 2))) (checksum (take n rest))
    then message_of (unescaped (take n rest)) else BadSum

-- how many of these bytes stand before the closing
abbrev pub body_length : List ℕ → ℕ
body_length rest = position_or_len (λ b. b == closing) rest

-- the packet that these bytes begin behind its opening, with how many bytes it has; nothing where it is cut
unfoldable pub packet_in : List ℕ → Option Received
packet_in rest = let n = body_length rest in
    if nat_lt (n + 2) (length rest)
    then Some (record { message = packet_at n rest; length = n + 4 }) else None

-- the message that bytes begin with; nothing where there is none, or it is cut
unfoldable pub message_in : List ℕ → Option Received
message_in [] = None
message_in (b ∷ rest) =
    if b == opening then packet_in rest else Some (record { message = single b; length = 1 })
