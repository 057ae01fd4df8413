use Rattle.std.specs.Prelude.{◌-◌}
use Rattle.shadow_space.specs.Trees.{top}
use Rattle.shadow_space.proofs.Passing.{IsPassing}
use Rattle.shadow_space.proofs.cached.CachedTable.enter_tables.Given as goal

abbrev pub invariant-loop-level : goal.invariant-loop-level
invariant-loop-level l = IsPassing l.tables l.fn.self l.fn.mem l.page l.self l.mem l.level l.way (top - l.level)

abbrev pub decreases-loop-level : goal.decreases-loop-level
decreases-loop-level l = l.level
