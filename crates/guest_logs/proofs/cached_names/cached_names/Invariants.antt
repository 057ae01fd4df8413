use Rattle.std.specs.List.{flat_map}
use Rattle.std.proofs.Common.{◌≡◌, ◌++◌, map, take}
use Rattle.caching_steps.specs.Noting.{first_name}
use Rattle.caching_steps.specs.Remembering.{space_names}
use Rattle.guest_logs.proofs.cached_names.cached_names.Given as goal

abbrev pub invariant-loop-space : goal.invariant-loop-space
invariant-loop-space g l =
    let m = g.S.Snapshot.machine l.machine in
    record {
      items : l.names.items ≡ map first_name m.platform.virt.first ++ flat_map space_names (take l.space m.spaces);
    }
