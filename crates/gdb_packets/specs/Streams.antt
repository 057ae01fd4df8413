-- The messages of a stream of bytes.
use Rattle.std.specs.Prelude.{◌≡◌, ℕ, zero, suc, ◌≤◌, List, [], ◌∷◌, drop, length, Option, Some, None}
use Rattle.gdb_packets.specs.Frames.{body_length, message_in}
use Rattle.gdb_packets.specs.declared.messages.Beginning.{Beginning}
use Rattle.gdb_packets.specs.declared.messages.Beginning.TheVariants.{Whole, Cut}
use Rattle.gdb_packets.specs.declared.messages.Message.{Message}
use Rattle.gdb_packets.specs.declared.messages.Received.{Received}

-- the bytes behind a message, if they begin with one
abbrev pub behind : Option Received → List ℕ → List ℕ
behind (Some received) bytes = drop received.length bytes
behind None bytes = bytes

-- bytes begin with this message, or with none yet: no closing is among that many of those behind the first
abbrev pub IsBeginning : List ℕ → Option Received → Beginning → Type 0
IsBeginning rest message (Whole received) = message ≡ Some received
IsBeginning rest message (Cut searched) = (message ≡ None) × (searched ≤ body_length rest)

-- a message, if there is one, before those behind it
abbrev pub with_later : Option Received → (ℕ → List Message) → List Message
with_later None later = []
with_later (Some received) later = received.message ∷ later received.length

-- at most that many of the first messages
unfoldable pub first_messages : ℕ → List ℕ → List Message
first_messages zero bytes = []
first_messages (suc n) bytes = with_later (message_in bytes) (λ k. first_messages n (drop k bytes))

-- all messages, each of which is of one byte at least. A packet that is cut is none
unfoldable pub messages_in : List ℕ → List Message
messages_in bytes = first_messages (length bytes) bytes
