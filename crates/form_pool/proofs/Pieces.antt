-- A piece is taken chunk by chunk.
use Rattle.std.proofs.Common.{◌≡◌, ◌∙◌, ℕ, ◌+◌, List, ◌++◌, take, drop, ap, sym}
use Rattle.std.proofs.Math.Seq.{take-add}
use Rattle.std.proofs.lemmas.List.{append_assoc}

pub taken_more : (front piece : List ℕ) (done size : ℕ) → (front ++ take done piece) ++ take size (drop done piece) ≡ front ++ take (done + size) piece
taken_more front piece done size = append_assoc front (take done piece) (take size (drop done piece)) ∙ ap (λ (rest : List ℕ). front ++ rest) (sym (take-add done size piece))
