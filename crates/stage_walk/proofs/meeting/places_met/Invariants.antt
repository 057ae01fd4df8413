use Rattle.std.proofs.Common.{◌≡◌, ◌+◌, ◌^◌, ◌<◌, ◌≤◌, ◌++◌, length, map}
use Rattle.arch_defs.specs.Walk.{levels, path}
use Rattle.stage_walk.proofs.MetPlaces.{places_from}
use Rattle.stage_walk.proofs.meeting.places_met.Given as goal

abbrev pub invariant-loop-level : goal.invariant-loop-level
invariant-loop-level g l = record {
  met : map (λ met. met.place) (path (g.F.Fetch.reading l.fn.fetch) l.fn.root l.shape l.va l.access)
      ≡ l.places.items ++ places_from (g.F.Fetch.reading l.fn.fetch) l.shape l.va l.access l.level l.table;
  level : l.level ≤ levels l.shape;
  room : length l.places.items + l.level ≤ 4;
  table : l.table < 2 ^ 44;
}

abbrev pub decreases-loop-level : goal.decreases-loop-level
decreases-loop-level g l = l.level
