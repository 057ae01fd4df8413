use Rattle.std.proofs.Common.{◌≡◌, take}
use Rattle.std.specs.List.{sum_by}
use Rattle.guest_turns.proofs.SpaceCounts.{counted}
use Rattle.guest_turns.proofs.memory_views.MemoryView.second_count.Given as goal

abbrev pub invariant-loop-space : goal.invariant-loop-space
invariant-loop-space l = l.count ≡ counted (take l.space l.self.spaces)
