-- What is transferred on a connection, in the order in which it is.
use Rattle.std.specs.Prelude.{◌≡◌, ℕ, ◌≤◌, List, [], ◌∷◌, ◌++◌, length, take, Bool, true, false, Option, Result, Ok, Err}
use Rattle.std.specs.Io.KnownBytes.{Consumes, IsAtEnd}
use Rattle.outside.specs.Pieces.{Appends}
use Rattle.outside.specs.declared.connections.ReceiveFault.{ReceiveFault}
use Rattle.outside.specs.declared.connections.Transfer.{Transfer}
use Rattle.outside.specs.declared.connections.Transfer.TheVariants.{Came, Sent}

-- the bytes that came, and those that were sent
abbrev pub came_in : List Transfer → List ℕ
came_in [] = []
came_in (Came piece ∷ rest) = piece ++ came_in rest
came_in (Sent piece ∷ rest) = came_in rest

abbrev pub sent_in : List Transfer → List ℕ
sent_in [] = []
sent_in (Came piece ∷ rest) = sent_in rest
sent_in (Sent piece ∷ rest) = piece ++ sent_in rest

-- what comes is the first n bytes of the room, which are no longer to come, and none only at the end
pub record GivesPiece (coming coming' : Option (List ℕ)) (room : List ℕ) (n : ℕ) : Type 0 where
  pub within : n ≤ length room
  pub came : Consumes coming coming' (take n room)
  pub end : n ≡ 0 → IsAtEnd coming'

-- a read gave the first n bytes of its room, or it failed, and nothing was transferred
abbrev pub Comes : {C : Type 0} → (C → List Transfer → Type 0) → C → C → Result ℕ ReceiveFault
    → List ℕ → Type 0
Comes made old new (Ok n) room = Appends made old new (Came (take n room) ∷ [])
Comes made old new (Err fault) room = Appends made old new []

-- a piece was sent, whole or otherwise a front of it
abbrev pub Sends : {C : Type 0} → (C → List Transfer → Type 0) → C → C → Bool → List ℕ → Type 0
Sends made old new true piece = Appends made old new (Sent piece ∷ [])
Sends made old new false piece =
    (n : ℕ) × (n ≤ length piece) × Appends made old new (Sent (take n piece) ∷ [])
