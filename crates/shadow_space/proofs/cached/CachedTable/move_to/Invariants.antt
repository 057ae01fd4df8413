use Rattle.shadow_space.proofs.Refolding.{IsRefolding}
use Rattle.shadow_space.proofs.cached.CachedTable.move_to.Given as goal

abbrev pub invariant-loop-i : goal.invariant-loop-i
invariant-loop-i l = IsRefolding l.tables l.part.blocks l.self.entries l.self.frames l.fn.mem l.i l.mem
