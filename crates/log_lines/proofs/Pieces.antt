-- A line, piece by piece.
use Rattle.std.proofs.Common.{◌≡◌, ap, ◌∙◌, List, ℕ, ◌++◌, append_assoc}

-- a line has a text behind what it began with, and then a piece is added
pub added : (first text piece line next : List ℕ) → line ≡ first ++ text → next ≡ line ++ piece → next ≡ first ++ (text ++ piece)
added first text piece line next before is = is ∙ ap (λ l. l ++ piece) before ∙ append_assoc first text piece
