-- A console.
use Rattle.std.specs.Prelude.{ℕ, Bool, List, length, nat_lt}

-- the bytes on it, how many it has room for, and the inputs that are unread, each a moment and a byte (own)
pub record ConsoleState : Type 0 where
  pub bytes : List ℕ
  pub room : ℕ
  pub inputs : List (ℕ × ℕ)

-- whether there is room for another byte
abbrev pub has_room : ConsoleState → Bool
has_room console = nat_lt (length console.bytes) console.room
