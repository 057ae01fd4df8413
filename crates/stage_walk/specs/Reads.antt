-- Where the entries lie that a walk reads (own).
use Rattle.std.specs.Prelude.{ℕ, ◌≡◌, ◌/◌, true, List, [], ◌∷◌}
use Rattle.arch_defs.specs.Frames.{Frames}
use Rattle.arch_defs.specs.Walk.{Met}

-- something holds of the place of each entry met
abbrev pub Each : (ℕ → Type 0) → List Met → Type 0
Each holds [] = Unit {0}
Each holds (m ∷ ms) = holds m.place × Each holds ms

-- a place lies in one of these frames
abbrev pub LiesIn : Frames → ℕ → Type 0
LiesIn frames place = frames (place / 4096) ≡ true
