use Rattle.shadow_space.proofs.Passing.{IsFollowing}
use Rattle.shadow_space.proofs.cached.CachedTable.way_to.Given as goal

abbrev pub invariant-loop-level : goal.invariant-loop-level
invariant-loop-level l = IsFollowing l.tables l.self l.mem l.page l.level l.way

abbrev pub decreases-loop-level : goal.decreases-loop-level
decreases-loop-level l = l.level
