-- A byte of RAM in the block that it lies in.
use Rattle.std.proofs.Common.{arith, ◌≡◌, ◌∙◌, ℕ, ◌+◌, ◌<◌, List, length, take, drop, slice_index, slice_index_or, ap}
use Rattle.std.proofs.lemmas.List.{get_or-drop, get_or-take, length-drop, length-take}

pub within_block : (ram block : List ℕ) (size start place offset : ℕ) → block ≡ take size (drop start ram) → start + place ≡ offset → place < size → offset < length ram
    → place < length block
within_block ram block size start place offset is sum small inside =
    let some : length block ≡ length (take size (drop start ram)) = ap (λ (bytes : List ℕ). length bytes) is in
    omega (arith, some, length-take size (drop start ram), length-drop start ram, sum, small, inside)

pub byte_in_block : (ram block : List ℕ) (size start place offset : ℕ) → block ≡ take size (drop start ram) → start + place ≡ offset → place < size
    → slice_index block place ≡ slice_index ram offset
byte_in_block ram block size start place offset is sum small =
    ap (λ (bytes : List ℕ). slice_index_or bytes place 0) is
    ∙ get_or-take size (drop start ram) place 0 small
    ∙ get_or-drop start ram place 0
    ∙ ap (λ (i : ℕ). slice_index ram i) sum
