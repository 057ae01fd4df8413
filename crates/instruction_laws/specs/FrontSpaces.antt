-- Which space of cached translations is in front (own).
use Rattle.std.specs.Prelude.{◌≡◌, List, [], ◌∷◌}
use Rattle.arch_defs.specs.declared.roots.GuestRoot.{GuestRoot}
use Rattle.arch_defs.specs.Spaces.{Space}

-- the front space is for this value of hgatp
abbrev pub FrontIs : GuestRoot → List Space → Type 0
FrontIs key [] = ⊥
FrontIs key (s ∷ ss) = s.key ≡ key
