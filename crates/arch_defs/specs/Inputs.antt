-- The inputs of a console, each a moment and a byte that is there from this moment of the clock on (own).
use Rattle.std.specs.Prelude.{ℕ, Bool, false, List, [], ◌∷◌, Option, Some, None, nat_le, if◌then◌else◌}

-- the moment of the first of the inputs that are unread
abbrev pub next_input : List (ℕ × ℕ) → Option ℕ
next_input [] = None
next_input ((moment, byte) ∷ rest) = Some moment

-- whether a moment has come
abbrev pub has_come : Option ℕ → ℕ → Bool
has_come None clock = false
has_come (Some moment) clock = nat_le moment clock

-- whether an unread input's moment has come, which is so where the first one's has
abbrev pub has_input : List (ℕ × ℕ) → ℕ → Bool
has_input inputs clock = has_come (next_input inputs) clock

-- the byte of the first unread input, if its moment has come
abbrev pub arrived_byte : List (ℕ × ℕ) → ℕ → Option ℕ
arrived_byte [] clock = None
arrived_byte ((moment, byte) ∷ rest) clock = if nat_le moment clock then Some byte else None

-- the inputs that are unread after it is read
abbrev pub unread_after : List (ℕ × ℕ) → ℕ → List (ℕ × ℕ)
unread_after [] clock = []
unread_after ((moment, byte) ∷ rest) clock = if nat_le moment clock then rest else (moment, byte) ∷ rest
