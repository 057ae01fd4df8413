use Rattle.std.proofs.Common.{◌≡◌, ◌-◌, ◌≤◌, drop, length}
use Rattle.rv64_asm.specs.Plans.{first_item_fault}
use Rattle.rv64_asm.proofs.images.first_item_fault.Given as goal

abbrev pub invariant-loop-index : goal.invariant-loop-index
invariant-loop-index l = record {
  within : l.index ≤ length l.lines;
  faults : first_item_fault l.labels l.index (drop l.index l.lines) ≡ first_item_fault l.labels 0 l.lines;
}

abbrev pub decreases-loop-index : goal.decreases-loop-index
decreases-loop-index l = length l.lines - l.index
