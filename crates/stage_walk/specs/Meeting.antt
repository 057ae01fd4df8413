-- Where a walk goes on (own).
use Rattle.std.specs.Prelude.{ℕ, Option, Some, None}
use Rattle.arch_defs.specs.declared.walks.Next.{Next}
use Rattle.arch_defs.specs.declared.walks.Next.TheVariants.{Ends, Below}

-- the table that an entry leads to, if it leads to one
abbrev pub table_below : Next → Option ℕ
table_below (Ends end) = None
table_below (Below table) = Some table
