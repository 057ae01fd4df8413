-- The space of a value of hgatp in front.
use Rattle.std.proofs.Common.{◌≡◌, ℕ, zero, suc, ◌≤◌, ◌⊎◌, inl, inr, true, false, List, [], ◌∷◌, refl, arith}
use Rattle.std.specs.List.{find}
use Rattle.std.proofs.lemmas.Bool.{cases_Bool}
use Rattle.arch_defs.specs.declared.roots.GuestRoot.{GuestRoot}
use Rattle.arch_defs.specs.Roots.{is_root}
use Rattle.arch_defs.specs.Spaces.{Space, entered, found_or_empty, is_for}
use Rattle.arch_defs.proofs.SameRoots.{root_same}
use Rattle.instruction_laws.specs.FrontSpaces.{FrontIs}

-- the space that was entered is in front
found_for : (key : GuestRoot) (spaces : List Space) → (found_or_empty key (find (is_for key) spaces)).key ≡ key
found_for key [] = refl
found_for key (space ∷ spaces) = by (cases_Bool (is_root space.key key)) (found_for key spaces)
  where
    by : (is_root space.key key ≡ true) ⊎ (is_root space.key key ≡ false) → (found_or_empty key (find (is_for key) spaces)).key ≡ key → (found_or_empty key (find (is_for key) (space ∷ spaces))).key ≡ key
    by (inl is) later = rw is (root_same space.key key is)
    by (inr other) later = rw other later

pub in_front : (most : ℕ) (key : GuestRoot) (spaces : List Space) → 1 ≤ most → FrontIs key (entered most key spaces)
unfolding entered
in_front zero key spaces some = absurd (omega (arith, some))
in_front (suc most) key spaces some = found_for key spaces
