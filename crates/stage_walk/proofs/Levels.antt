-- The walk by its list of entries, level by level.
use Rattle.std.proofs.Common.{◌≡◌, ℕ, zero, suc, ◌+◌, ◌≤◌, true, false, refl, arith}
use Rattle.arch_defs.specs.declared.modes.Access.{Access}
use Rattle.arch_defs.specs.declared.walks.Shape.{Shape}
use Rattle.arch_defs.specs.declared.walks.WalkEnd.{WalkEnd}
use Rattle.arch_defs.specs.declared.walks.WalkEnd.TheVariants.{PageFault}
use Rattle.arch_defs.specs.declared.walks.Next.{Next}
use Rattle.arch_defs.specs.declared.walks.Next.TheVariants.{Ends, Below}
use Rattle.arch_defs.specs.Walk.{EntryReading, levels, is_canonical, met_in, next_of, later, path_from, path, or_else, end_of, walk}
use Rattle.stage_walk.specs.ByLevels.{followed, walk_from}

-- the end of the entries met is the end level by level
pub end_from : (reading : EntryReading) (shape : Shape) (va : ℕ) (access : Access) (level table : ℕ)
    → end_of access (path_from reading shape va access level table) ≡ walk_from reading shape va access level table
unfolding end_of path_from walk_from
end_from reading shape va access zero table = refl
end_from reading shape va access (suc level) table =
    by (end_from reading shape va access level) (next_of access (met_in reading shape va level table))
  where
    by : ((below : ℕ) → end_of access (path_from reading shape va access level below) ≡ walk_from reading shape va access level below) → (next : Next)
        → or_else (end_of access (later (path_from reading shape va access level) next)) next
        ≡ followed (walk_from reading shape va access level) next
    by below_too (Ends end) = refl
    by below_too (Below below) = below_too below

-- a walk is one from its root at an address whose upper bits are right, and else a page fault
pub walk_starts : (reading : EntryReading) (root : ℕ) (shape : Shape) (va : ℕ) (access : Access) → is_canonical shape va ≡ true
    → walk reading root shape va access ≡ walk_from reading shape va access (levels shape) root
unfolding walk path
walk_starts reading root shape va access right = rw right (end_from reading shape va access (levels shape) root)

pub walk_refused : (reading : EntryReading) (root : ℕ) (shape : Shape) (va : ℕ) (access : Access) → is_canonical shape va ≡ false
    → walk reading root shape va access ≡ PageFault
unfolding walk path end_of
walk_refused reading root shape va access wrong = rw wrong refl

-- without a level left it is a page fault; else it ends, or goes on below
pub from_none : (reading : EntryReading) (shape : Shape) (va : ℕ) (access : Access) (level table : ℕ) → level ≤ 0
    → walk_from reading shape va access level table ≡ PageFault
unfolding walk_from
from_none reading shape va access zero table none = refl
from_none reading shape va access (suc level) table none = absurd (omega arith)

pub from_ends : (reading : EntryReading) (shape : Shape) (va : ℕ) (access : Access) (levels level table : ℕ) (end : WalkEnd)
    → levels ≡ level + 1 → next_of access (met_in reading shape va level table) ≡ Ends end
    → walk_from reading shape va access levels table ≡ end
unfolding walk_from
from_ends reading shape va access zero level table end one says = absurd (omega arith)
from_ends reading shape va access (suc levels) level table end one says =
    let same : levels ≡ level = omega arith in rw (same, says) refl

pub from_below : (reading : EntryReading) (shape : Shape) (va : ℕ) (access : Access) (levels level table below : ℕ)
    → levels ≡ level + 1 → next_of access (met_in reading shape va level table) ≡ Below below
    → walk_from reading shape va access levels table ≡ walk_from reading shape va access level below
unfolding walk_from
from_below reading shape va access zero level table below one says = absurd (omega arith)
from_below reading shape va access (suc levels) level table below one says =
    let same : levels ≡ level = omega arith in rw (same, says) refl

pub ruleset steps = (walk_starts, walk_refused, from_none, from_ends, from_below)
