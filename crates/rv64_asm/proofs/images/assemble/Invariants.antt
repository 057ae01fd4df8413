use Rattle.std.proofs.Common.{◌≡◌, ◌-◌, ◌++◌, ◌≤◌, drop, length, None}
use Rattle.rv64_asm.specs.Plans.{code, first_item_fault}
use Rattle.rv64_asm.proofs.images.assemble.Given as goal

abbrev pub invariant-loop-index : goal.invariant-loop-index
invariant-loop-index l = record {
  within : l.index ≤ length l.lines;
  faults : first_item_fault l.labels l.index (drop l.index l.lines) ≡ None;
  code : l.bytes.items ++ code l.labels l.index (drop l.index l.lines) ≡ code l.labels 0 l.lines;
}

abbrev pub decreases-loop-index : goal.decreases-loop-index
decreases-loop-index l = length l.lines - l.index
