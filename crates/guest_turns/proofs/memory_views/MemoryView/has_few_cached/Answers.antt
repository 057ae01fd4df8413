use Rattle.std.proofs.Common.{◌^◌, ◌≤◌, subst}
use Rattle.machine_defs.specs.Machine.{Machine}
use Rattle.guest_turns.proofs.SpaceCounts.{counted, hosted_few}
use Rattle.guest_turns.proofs.memory_views.MemoryView.has_few_cached.Goals as goal

pub returns : goal.returns
returns c =
    subst (λ (m : Machine). counted m.spaces ≤ 2 ^ 24) c.self.view_is
    (hosted_few c.self.inside.guest.now c.self.inside.memory.now c.self.invariant)
