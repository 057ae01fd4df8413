use Rattle.std.proofs.Common.{◌≡◌, ◌++◌, map, take}
use Rattle.caching_steps.specs.Noting.{first_name}
use Rattle.guest_logs.proofs.cached_names.add_first.Given as goal

abbrev pub invariant-loop-i : goal.invariant-loop-i
invariant-loop-i l = record {
  items : l.names.items ≡ l.fn.names.items ++ map first_name (take l.i l.entries);
}
