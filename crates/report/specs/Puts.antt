-- The pieces of a section, each of which is one put.
use Rattle.std.specs.Prelude.{ℕ, List, [], ◌∷◌, ◌++◌, length, codes}
use Rattle.guest_settings.specs.declared.statuses.Status.{Status}
use Rattle.guest_settings.specs.Sections.{header}

-- a piece, unless it is empty
abbrev pub unless_empty : List ℕ → List (List ℕ)
unless_empty [] = []
unless_empty (first ∷ rest) = (first ∷ rest) ∷ []

-- the header with its line feed, the console unless it is empty, and the last line feed
abbrev pub section_pieces : List ℕ → Status → ℕ → List ℕ → List (List ℕ)
section_pieces name status steps console =
    (header name status steps (length console) ++ codes "\n") ∷ unless_empty console ++ codes "\n" ∷ []
