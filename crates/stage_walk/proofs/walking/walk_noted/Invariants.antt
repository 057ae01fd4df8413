use Rattle.std.proofs.Common.{◌≡◌, ◌^◌, ◌<◌, ◌≤◌}
use Rattle.arch_defs.specs.Frames.{Within}
use Rattle.arch_defs.specs.Walk.{levels, walk}
use Rattle.stage_walk.specs.ByLevels.{walk_from}
use Rattle.stage_walk.proofs.NotedWalks.{Goes}
use Rattle.stage_walk.proofs.walking.walk_noted.Given as goal

abbrev pub invariant-loop-level : goal.invariant-loop-level
invariant-loop-level g l = record {
  walk : walk (g.F.Fetch.reading l.fn.fetch) l.fn.root l.shape l.va l.access
      ≡ walk_from (g.F.Fetch.reading l.fn.fetch) l.shape l.va l.access l.level l.table;
  level : l.level ≤ levels l.shape;
  table : l.table < 2 ^ 44;
  more : Within (g.N.Notes.held l.fn.notes) (g.N.Notes.held l.notes);
  recent : Within (g.N.Notes.recent l.fn.notes) (g.N.Notes.recent l.notes);
  noted : Goes (g.F.Fetch.reading l.fn.fetch) l.shape l.va l.access (g.N.Notes.recent l.notes) l.fn.root l.level l.table;
}

abbrev pub decreases-loop-level : goal.decreases-loop-level
decreases-loop-level g l = l.level
