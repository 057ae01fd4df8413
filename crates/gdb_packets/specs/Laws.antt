-- Laws of packets and of digits.
use Rattle.std.specs.Prelude.{ℕ, ◌≡◌, ◌<◌, List, ◌++◌, length, take, Some, None}
use Rattle.std.specs.List.{All}
use Rattle.gdb_packets.specs.Digits.{hex, unhex}
use Rattle.gdb_packets.specs.Frames.{framed, message_in}
use Rattle.gdb_packets.specs.declared.messages.Message.TheVariants.{Packet}

abbrev pub IsByte : ℕ → Type 0
IsByte b = b < 256

-- what is framed is read back, whatever follows it
abbrev pub FramedIsRead : Type 0
FramedIsRead = (payload rest : List ℕ) → message_in (framed payload ++ rest)
    ≡ Some (record { message = Packet payload; length = length (framed payload) })

-- and a packet that is cut anywhere is none yet
abbrev pub CutIsNone : Type 0
CutIsNone = (payload : List ℕ) (n : ℕ) → n < length (framed payload)
    → message_in (take n (framed payload)) ≡ None

-- the digits of bytes give them back
abbrev pub HexIsRead : Type 0
HexIsRead = (bytes : List ℕ) → All IsByte bytes → unhex (hex bytes) ≡ Some bytes
