-- What holds of each cached translation, with the value of hgatp that its space is for.
use Rattle.std.specs.Prelude.{List, [], ◌∷◌}
use Rattle.std.specs.List.{All}
use Rattle.arch_defs.specs.declared.cached.Entry.{Entry}
use Rattle.arch_defs.specs.declared.roots.GuestRoot.{GuestRoot}
use Rattle.arch_defs.specs.Spaces.{Space}

-- P holds of each entry of each space, with the space's key
abbrev pub EachEntry : (GuestRoot → Entry → Type 0) → List Space → Type 0
EachEntry P spaces = All (λ s. All (P s.key) s.entries) spaces

-- Q holds of the key of the front space, if there is one
abbrev pub FrontHas : (GuestRoot → Type 0) → List Space → Type 0
FrontHas Q [] = Unit {0}
FrontHas Q (s ∷ ss) = Q s.key
