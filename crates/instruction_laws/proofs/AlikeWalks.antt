-- Walks under readings that agree at each multiple of 8.
use Rattle.std.proofs.Common.{◌≡◌, ℕ, zero, suc, ◌%◌, Bool, true, false, [], ◌∷◌, if◌then◌else◌, refl, ap}
use Rattle.arch_defs.specs.declared.modes.Access.{Access}
use Rattle.arch_defs.specs.declared.walks.Next.{Next}
use Rattle.arch_defs.specs.declared.walks.Next.TheVariants.{Ends, Below}
use Rattle.arch_defs.specs.declared.walks.Shape.{Shape}
use Rattle.arch_defs.specs.Walk.{EntryReading, end_of, index, is_canonical, later, levels, met_in, next_of, path, path_from, place_of, walk}
use Rattle.arch_defs.proofs.SamePages.{eighth}

-- readings that agree at each multiple of 8, where the entries are
abbrev pub AgreeAtEntries : EntryReading → EntryReading → Type 0
AgreeAtEntries reading other = (at : ℕ) → at % 8 ≡ 0 → other at ≡ reading at

-- the entries met are the same
paths_from_alike : (reading other : EntryReading) → AgreeAtEntries reading other → (shape : Shape) (va : ℕ) (access : Access) (level table : ℕ)
    → path_from other shape va access level table ≡ path_from reading shape va access level table
unfolding path_from
paths_from_alike reading other same shape va access zero table = refl
paths_from_alike reading other same shape va access (suc level) table =
    rw (same (place_of shape level table va) (eighth table (index shape level va)))
    (ap (λ ms. met_in reading shape va level table ∷ ms) (by (paths_from_alike reading other same shape va access level) (next_of access (met_in reading shape va level table))))
  where
    by : ((below : ℕ) → path_from other shape va access level below ≡ path_from reading shape va access level below) → (next : Next)
        → later (path_from other shape va access level) next ≡ later (path_from reading shape va access level) next
    by below_too (Ends end) = refl
    by below_too (Below below) = below_too below

-- and so is the end
pub walks_alike : (reading other : EntryReading) → AgreeAtEntries reading other → (root : ℕ) (shape : Shape) (va : ℕ) (access : Access)
    → walk other root shape va access ≡ walk reading root shape va access
unfolding walk path
walks_alike reading other same root shape va access = ap (end_of access) (by (is_canonical shape va))
  where
    by : (right : Bool) → (if right then path_from other shape va access (levels shape) root else [])
        ≡ (if right then path_from reading shape va access (levels shape) root else [])
    by true = paths_from_alike reading other same shape va access (levels shape) root
    by false = refl
