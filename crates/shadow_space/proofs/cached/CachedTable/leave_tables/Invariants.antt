use Rattle.shadow_space.proofs.Passing.{IsPassing}
use Rattle.shadow_space.proofs.cached.CachedTable.leave_tables.Given as goal

abbrev pub invariant-loop-level : goal.invariant-loop-level
invariant-loop-level l = IsPassing l.tables l.fn.self l.fn.mem l.page l.self l.mem l.level l.way l.level
