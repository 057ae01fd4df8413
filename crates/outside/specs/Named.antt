use Rattle.std.specs.Prelude.{ℕ, List, nat_eq, find, Option, option_map}
use Rattle.std.specs.Cmp.Lexicographic.{pointwise}

-- the bytes of the first file with this name
abbrev pub content_of : List (List ℕ × List ℕ) → List ℕ → Option (List ℕ)
content_of files name = option_map (λ f. f.1) (find (λ f. pointwise nat_eq f.0 name) files)
