use Rattle.std.proofs.Common.{◌≡◌, ◌++◌, map, take}
use Rattle.caching_steps.specs.Noting.{second_name}
use Rattle.shadow_pool.specs.Slots.{space_at}
use Rattle.guest_logs.proofs.cached_names.add_space.Given as goal

abbrev pub invariant-loop-place : goal.invariant-loop-place
invariant-loop-place g l = record {
  items : l.names.items
      ≡ l.fn.names.items ++ map (second_name l.hgatp) (take l.place (space_at (g.S.Snapshot.machine l.machine).spaces l.space).entries);
}
