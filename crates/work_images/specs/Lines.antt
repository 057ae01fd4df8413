-- A program line by line, as an image gets it.
use Rattle.std.specs.Prelude.{ℕ, ◌+◌, ◌^◌, Bool, true, ◌&&◌, nat_le, is_none, Some, None, List, [], ◌∷◌}
use Rattle.byteorder.specs.Endian.{little_bytes}
use Rattle.rv64_asm.specs.Words.{encoded}
use Rattle.rv64_asm.specs.Fitting.{fits}
use Rattle.rv64_asm.specs.Plans.{ImagePlan, Piece, index_of, is_aimed, with_item, with_label, with_piece}
use Rattle.work_images.specs.declared.lines.Label.{Label}
use Rattle.work_images.specs.declared.lines.Label.TheVariants as label
use Rattle.work_images.specs.declared.lines.Line.{Line}
use Rattle.work_images.specs.declared.lines.Line.TheVariants as line

-- the number of a label, each another one
abbrev pub id_of : Label → ℕ
id_of label.Again = 0
id_of label.Unfenced = 1
id_of label.Put = 2
id_of label.Done = 3

abbrev pub piece_of : ℕ → List ℕ → Piece
piece_of place bytes = record { at = place; bytes = bytes }

-- an image with one more line
abbrev pub with_line : ImagePlan → Line → ImagePlan
with_line plan (line.Op o) = with_item plan (record { op = o; target = None })
with_line plan (line.To o at) = with_item plan (record { op = o; target = Some (id_of at) })
with_line plan (line.Label here) = with_label plan (id_of here)
with_line plan (line.OpAt place o) = with_piece plan (piece_of place (little_bytes 4 (encoded o)))
with_line plan (line.DoubleAt place value) = with_piece plan (piece_of place (little_bytes 8 value))
with_line plan (line.ByteAt place value) = with_piece plan (piece_of place (value ∷ []))

-- an image with more lines
unfoldable pub with_all_lines : ImagePlan → List Line → ImagePlan
with_all_lines plan [] = plan
with_all_lines plan (line ∷ rest) = with_all_lines (with_line plan line) rest

-- whether a line can be added: an op's fields fit, one that is aimed at a label can be, the label is not set
-- yet, what is placed ends at 2 ^ 26 at most
abbrev pub can_add : ImagePlan → Line → Bool
can_add plan (line.Op o) = fits o
can_add plan (line.To o at) = is_aimed o
can_add plan (line.Label here) = is_none (index_of plan.labels (id_of here))
can_add plan (line.OpAt place o) = fits o && nat_le (place + 4) (2 ^ 26)
can_add plan (line.DoubleAt place value) = nat_le (place + 8) (2 ^ 26)
can_add plan (line.ByteAt place value) = nat_le (place + 1) (2 ^ 26)

unfoldable pub can_add_all : ImagePlan → List Line → Bool
can_add_all plan [] = true
can_add_all plan (line ∷ rest) = can_add plan line && can_add_all (with_line plan line) rest
