-- What an image is made of, and the bytes that it has in the end.
use Rattle.std.specs.Prelude.{◌≡◌, ℕ, ◌+◌, ◌-◌, ◌*◌, ◌%◌, ◌^◌, ◌<◌, ◌==◌, max, nat_lt, nat_le}
use Rattle.std.specs.Prelude.{Bool, true, false, ◌&&◌, if◌then◌else◌, Option, Some, None, unwrap_or}
use Rattle.std.specs.Prelude.{List, [], ◌∷◌, ◌++◌, length, slice_index}
use Rattle.std.specs.Option.{option_or}
use Rattle.std.specs.Int.{w64, cast_signed}
use Rattle.byteorder.specs.Endian.{little_bytes}
use Rattle.op_defs.specs.declared.ops.Op.{Op}
use Rattle.op_defs.specs.declared.ops.Op.TheVariants as op
use Rattle.rv64_asm.specs.declared.faults.AsmFault.{AsmFault}
use Rattle.rv64_asm.specs.declared.faults.AsmFault.TheVariants.{TooFar, NoLabel}
use Rattle.rv64_asm.specs.Words.{encoded}
use Rattle.rv64_asm.specs.Fitting.{fits}

-- an op, with the label that it is to reach if it is aimed at one
pub record Item : Type 0 where
  pub op : Op
  pub target : Option ℕ

-- a label, and the index of the op that comes next
pub record Label : Type 0 where
  pub id : ℕ
  pub index : ℕ

-- bytes, and the place that they begin at
pub record Piece : Type 0 where
  pub at : ℕ
  pub bytes : List ℕ

-- all that was pushed, set and placed, the oldest first
pub record ImagePlan : Type 0 where
  pub items : List Item
  pub labels : List Label
  pub pieces : List Piece

abbrev pub image_plan_of : List Item → List Label → List Piece → ImagePlan
image_plan_of items labels pieces = record { items = items; labels = labels; pieces = pieces }

abbrev pub empty_plan : ImagePlan
empty_plan = image_plan_of [] [] []

-- a plan with one more item, with a label at the next op, or with one more piece
abbrev pub with_item : ImagePlan → Item → ImagePlan
with_item plan item = record plan { items = plan.items ++ item ∷ [] }

abbrev pub with_label : ImagePlan → ℕ → ImagePlan
with_label plan id =
    record plan { labels = plan.labels ++ record { id = id; index = length plan.items } ∷ [] }

abbrev pub with_piece : ImagePlan → Piece → ImagePlan
with_piece plan piece = record plan { pieces = plan.pieces ++ piece ∷ [] }

-- the ops that can be aimed at a label: JAL and the branches
unfoldable pub is_aimed : Op → Bool
is_aimed (op.Jal rd offset) = true
is_aimed (op.Branch t rs1 rs2 offset) = true
is_aimed other = false

-- such an op with its offset
unfoldable pub with_offset : ℕ → Op → Op
with_offset x (op.Jal rd offset) = op.Jal rd x
with_offset x (op.Branch t rs1 rs2 offset) = op.Branch t rs1 rs2 x
with_offset x other = other

-- the distance from the op at one index to that at another, four bytes an op, as 64 bits hold it
abbrev pub distance : ℕ → ℕ → ℕ
distance from to = (to + (2 ^ 64 - from)) % 2 ^ 64 * 4 % 2 ^ 64

-- the index that a label stands at, if it is set
unfoldable pub index_of : List Label → ℕ → Option ℕ
index_of [] id = None
index_of (label ∷ rest) id = if label.id == id then Some label.index else index_of rest id

-- the op of an index when its label, if it has one, stands at this index
abbrev pub reaching : ℕ → Op → Option ℕ → Op
reaching index o None = o
reaching index o (Some to) = with_offset (distance index to) o

abbrev pub op_of_target : List Label → ℕ → Op → Option ℕ → Op
op_of_target labels index o None = o
op_of_target labels index o (Some id) = reaching index o (index_of labels id)

-- the op of an item at an index, its offset filled in
unfoldable pub op_filled : List Label → ℕ → Item → Op
op_filled labels index item = op_of_target labels index item.op item.target

-- why there is no word for an op with an offset: its label is too far away
abbrev pub fault_of_offset : ℕ → Op → Option AsmFault
fault_of_offset offset o = if fits (with_offset offset o) then None
    else Some (TooFar (cast_signed w64 offset))

-- the same, or that its label is not set
abbrev pub fault_at : ℕ → Op → ℕ → Option ℕ → Option AsmFault
fault_at index o id None = Some (NoLabel id)
fault_at index o id (Some to) = fault_of_offset (distance index to) o

abbrev pub fault_of_target : List Label → ℕ → Op → Option ℕ → Option AsmFault
fault_of_target labels index o None = None
fault_of_target labels index o (Some id) = fault_at index o id (index_of labels id)

unfoldable pub item_fault : List Label → ℕ → Item → Option AsmFault
item_fault labels index item = fault_of_target labels index item.op item.target

-- the first such fault of the items from an index on
unfoldable pub first_item_fault : List Label → ℕ → List Item → Option AsmFault
first_item_fault labels index [] = None
first_item_fault labels index (item ∷ rest) =
    option_or (item_fault labels index item) (first_item_fault labels (index + 1) rest)

-- the fault of a whole plan
abbrev pub plan_fault : ImagePlan → Option AsmFault
plan_fault plan = first_item_fault plan.labels 0 plan.items

-- the words of the items from an index on, one after the other, as bytes
unfoldable pub code : List Label → ℕ → List Item → List ℕ
code labels index [] = []
code labels index (item ∷ rest) =
    little_bytes 4 (encoded (op_filled labels index item)) ++ code labels (index + 1) rest

abbrev pub covers : Piece → ℕ → Bool
covers piece place = nat_le piece.at place && nat_lt place (piece.at + length piece.bytes)

-- the byte that a piece has at a place
abbrev pub own : Piece → ℕ → Option ℕ
own piece place = if covers piece place then Some (slice_index piece.bytes (place - piece.at)) else None

-- the byte at a place of the last piece that covers it
unfoldable pub covering : List Piece → ℕ → Option ℕ
covering [] place = None
covering (piece ∷ rest) place = option_or (covering rest place) (own piece place)

-- each byte is the one that is laid over its place, where one is, else the byte that stood there
abbrev pub LaidOver : (ℕ → Option ℕ) → List ℕ → List ℕ → Type 0
LaidOver over before after =
    (place : ℕ) → slice_index after place ≡ unwrap_or (over place) (slice_index before place)

-- where a piece's last byte ends; one without bytes ends nowhere
abbrev pub piece_end : Piece → ℕ
piece_end piece = if length piece.bytes == 0 then 0 else piece.at + length piece.bytes

unfoldable pub last_end : List Piece → ℕ
last_end [] = 0
last_end (piece ∷ rest) = max (piece_end piece) (last_end rest)

-- the end of the last op or byte
abbrev pub size : ImagePlan → ℕ
size plan = max (4 * length plan.items) (last_end plan.pieces)

-- the byte at a place: that of the last piece that covers it, else that of the op there, else zero
abbrev pub byte_at : ImagePlan → ℕ → ℕ
byte_at plan place =
    unwrap_or (covering plan.pieces place) (slice_index (code plan.labels 0 plan.items) place)

-- the bytes of a whole image
pub record IsImage (plan : ImagePlan) (image : List ℕ) : Type 0 where
  pub ends : length image ≡ size plan
  pub bytes : (place : ℕ) → place < size plan → slice_index image place ≡ byte_at plan place
