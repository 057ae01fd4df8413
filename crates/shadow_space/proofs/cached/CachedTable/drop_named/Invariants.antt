use Rattle.shadow_space.proofs.Dropping.{IsCutting}
use Rattle.shadow_space.proofs.cached.CachedTable.drop_named.Given as goal

abbrev pub invariant-loop-i : goal.invariant-loop-i
invariant-loop-i l = IsCutting l.tables l.page l.fn.self l.fn.mem l.self l.mem l.i

abbrev pub decreases-loop-i : goal.decreases-loop-i
decreases-loop-i l = l.i
