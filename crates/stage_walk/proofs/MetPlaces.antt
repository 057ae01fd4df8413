-- The places of the entries met, level by level.
use Rattle.std.proofs.Common.{◌≡◌, ℕ, zero, suc, ◌+◌, ◌≤◌, true, false, refl, sym, arith, ap, ◌∙◌, List, [], ◌∷◌, ◌++◌, Option, Some, None, map}
use Rattle.std.proofs.lemmas.List.{append_assoc, append-nil}
use Rattle.std.proofs.lemmas.Option.{none-some, same_Some}
use Rattle.arch_defs.specs.declared.modes.Access.{Access}
use Rattle.arch_defs.specs.declared.walks.Shape.{Shape}
use Rattle.arch_defs.specs.declared.walks.Next.{Next}
use Rattle.arch_defs.specs.declared.walks.Next.TheVariants.{Ends, Below}
use Rattle.arch_defs.specs.Walk.{EntryReading, is_canonical, later, levels, met_in, next_of, path, path_from, place_of}
use Rattle.stage_walk.specs.Meeting.{table_below}

abbrev pub places_from : EntryReading → Shape → ℕ → Access → ℕ → ℕ → List ℕ
places_from reading shape va access level table = map (λ met. met.place) (path_from reading shape va access level table)

-- a walk meets those from its root on at an address whose upper bits are right, and else none
pub met_from_root : (reading : EntryReading) (root : ℕ) (shape : Shape) (va : ℕ) (access : Access) → is_canonical shape va ≡ true
    → map (λ met. met.place) (path reading root shape va access) ≡ [] ++ places_from reading shape va access (levels shape) root
unfolding path
met_from_root reading root shape va access right = rw right refl

pub met_none : (reading : EntryReading) (root : ℕ) (shape : Shape) (va : ℕ) (access : Access) → is_canonical shape va ≡ false
    → map (λ met. met.place) (path reading root shape va access) ≡ []
unfolding path
met_none reading root shape va access wrong = rw wrong refl

-- what has been met is all where no level is left, or where an entry leads to no table; else the walk goes on
pub met_all : (reading : EntryReading) (shape : Shape) (va : ℕ) (access : Access) (level table : ℕ) (all met : List ℕ) → level ≤ 0
    → all ≡ met ++ places_from reading shape va access level table → met ≡ all
unfolding path_from
met_all reading shape va access zero table all met none so_far = sym (so_far ∙ append-nil met)
met_all reading shape va access (suc level) table all met none so_far = absurd (omega (arith, none))

-- an entry that leads to no table is the last
last_one : (reading : EntryReading) (shape : Shape) (va : ℕ) (access : Access) (level table : ℕ)
    → table_below (next_of access (met_in reading shape va level table)) ≡ None
    → places_from reading shape va access (suc level) table ≡ place_of shape level table va ∷ []
unfolding path_from
last_one reading shape va access level table none = by (next_of access (met_in reading shape va level table)) none
  where
    by : (next : Next) → table_below next ≡ None
        → place_of shape level table va ∷ map (λ m. m.place) (later (path_from reading shape va access level) next) ≡ place_of shape level table va ∷ []
    by (Ends end) none = refl
    by (Below below) none = absurd (none-some below (sym none))

one_more : (reading : EntryReading) (shape : Shape) (va : ℕ) (access : Access) (level table below : ℕ)
    → table_below (next_of access (met_in reading shape va level table)) ≡ Some below
    → places_from reading shape va access (suc level) table ≡ place_of shape level table va ∷ places_from reading shape va access level below
unfolding path_from
one_more reading shape va access level table below says = by (next_of access (met_in reading shape va level table)) says
  where
    by : (next : Next) → table_below next ≡ Some below
        → place_of shape level table va ∷ map (λ m. m.place) (later (path_from reading shape va access level) next)
        ≡ place_of shape level table va ∷ places_from reading shape va access level below
    by (Ends end) says = absurd (none-some below says)
    by (Below t) says = ap (λ f. place_of shape level table va ∷ places_from reading shape va access level f) (same_Some t below says)

pub met_last : (reading : EntryReading) (shape : Shape) (va : ℕ) (access : Access) (above level table : ℕ) (all met : List ℕ)
    → above ≡ level + 1 → table_below (next_of access (met_in reading shape va level table)) ≡ None
    → all ≡ met ++ places_from reading shape va access above table → met ++ place_of shape level table va ∷ [] ≡ all
met_last reading shape va access above level table all met one none so_far =
    let next : above ≡ suc level = omega (arith, one) in
    sym (so_far ∙ ap (λ n. met ++ places_from reading shape va access n table) next
    ∙ ap (λ places. met ++ places) (last_one reading shape va access level table none))

pub met_more : (reading : EntryReading) (shape : Shape) (va : ℕ) (access : Access) (above level table below : ℕ) (all met : List ℕ)
    → above ≡ level + 1 → table_below (next_of access (met_in reading shape va level table)) ≡ Some below
    → all ≡ met ++ places_from reading shape va access above table
    → all ≡ (met ++ place_of shape level table va ∷ []) ++ places_from reading shape va access level below
met_more reading shape va access above level table below all met one says so_far =
    let next : above ≡ suc level = omega (arith, one) in
    so_far ∙ ap (λ n. met ++ places_from reading shape va access n table) next
    ∙ ap (λ places. met ++ places) (one_more reading shape va access level table below says)
    ∙ sym (append_assoc met (place_of shape level table va ∷ []) (places_from reading shape va access level below))

pub ruleset steps = (met_from_root, met_none, met_all, met_last, met_more)
