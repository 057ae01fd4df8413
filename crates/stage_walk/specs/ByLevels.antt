-- The end of a walk level by level, as a plain recursion.
use Rattle.std.specs.Prelude.{ℕ, suc, zero}
use Rattle.arch_defs.specs.declared.modes.Access.{Access}
use Rattle.arch_defs.specs.declared.walks.Next.{Next}
use Rattle.arch_defs.specs.declared.walks.Next.TheVariants.{Ends, Below}
use Rattle.arch_defs.specs.declared.walks.Shape.{Shape}
use Rattle.arch_defs.specs.declared.walks.WalkEnd.{WalkEnd}
use Rattle.arch_defs.specs.declared.walks.WalkEnd.TheVariants.{PageFault}
use Rattle.arch_defs.specs.Walk.{EntryReading, met_in, next_of}

-- the end after an entry that says this
abbrev pub followed : (ℕ → WalkEnd) → Next → WalkEnd
followed from (Ends end) = end
followed from (Below table) = from table

-- the end from a table with that many levels on
unfoldable pub walk_from : EntryReading → Shape → ℕ → Access → ℕ → ℕ → WalkEnd
walk_from reading shape va access zero table = PageFault
walk_from reading shape va access (suc level) table =
    followed (walk_from reading shape va access level) (next_of access (met_in reading shape va level table))
