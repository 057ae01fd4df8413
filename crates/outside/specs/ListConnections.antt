use Rattle.std.specs.Prelude.{◌≡◌, ℕ, ◌+◌, min, Bool, ◌||◌, List, [], ◌∷◌, ◌++◌, drop, length, nat_eq, nat_le, Result, Ok, Err, if◌then◌else◌}
use Rattle.std.specs.List.{list_any}
use Rattle.outside.specs.Connections.{sent_in}
use Rattle.outside.specs.Faults.{one_more}
use Rattle.outside.specs.ListSinks.{SinkState}
use Rattle.outside.specs.declared.connections.ReceiveFault.{ReceiveFault}
use Rattle.outside.specs.declared.connections.ReceiveFault.TheVariants.{Failed}
use Rattle.outside.specs.declared.connections.Transfer.{Transfer}
use Rattle.outside.specs.declared.connections.Transfer.TheVariants.{Came, Sent}
use Rattle.outside.specs.declared.list_connections.ReadMade.{ReadMade}

-- what a `ListConnection` holds: the bytes that are still to come, at most how many come at once, the numbers
-- of the reads that are to fail, the reads so far, their faults, the reads that did not fail and the room for
-- them, and its sink
pub record ListState : Type 0 where
  pub coming : List ℕ
  pub most : ℕ
  pub failing : List ℕ
  pub reads : ℕ
  pub read_faults : ℕ
  pub made : List ReadMade
  pub room : ℕ
  pub out : SinkState

-- what a new connection holds
abbrev pub fresh_connection : List ℕ → ℕ → ℕ → SinkState → ListState
fresh_connection coming most room out = record {
  coming = coming;
  most = most;
  failing = [];
  reads = 0;
  read_faults = 0;
  made = [];
  room = room;
  out = out;
}

-- whether the next read is to fail: by its number, or since there is no room for it
abbrev pub is_next_failing : ListState → Bool
is_next_failing held =
    list_any (nat_eq (one_more held.reads)) held.failing || nat_le held.room (length held.made)

-- how many bytes the next read gives into that much room, where it does not fail
abbrev pub given_of : ListState → ℕ → ℕ
given_of held room = min (min room held.most) (length held.coming)

abbrev pub read_result : ListState → ℕ → Result ℕ ReceiveFault
read_result held room = if is_next_failing held then Err Failed else Ok (given_of held room)

-- what the next read leaves
abbrev pub after_read : ListState → ℕ → ListState
after_read held room =
    if is_next_failing held
    then record held { reads = one_more held.reads; read_faults = one_more held.read_faults }
    else record held {
      coming = drop (given_of held room) held.coming;
      reads = one_more held.reads;
      made = held.made
          ++ record { sent = length held.out.bytes; came = given_of held room } ∷ [];
    }

-- the reads among transfers, after that many bytes that were sent before
abbrev pub reads_in : ℕ → List Transfer → List ReadMade
reads_in sent [] = []
reads_in sent (Came piece ∷ rest) = record { sent = sent; came = length piece } ∷ reads_in sent rest
reads_in sent (Sent piece ∷ rest) = reads_in (sent + length piece) rest

-- the transfers are those that were made: their bytes are those of the sink, and their reads those that were
-- made
pub record IsMadeBy (held : ListState) (transfers : List Transfer) : Type 0 where
  pub sent : held.out.bytes ≡ sent_in transfers
  pub reads : held.made ≡ reads_in 0 transfers
