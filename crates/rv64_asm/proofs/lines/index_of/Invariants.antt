use Rattle.std.proofs.Common.{◌≡◌, drop}
use Rattle.rv64_asm.specs.Plans.{index_of}
use Rattle.rv64_asm.proofs.lines.index_of.Given as goal

abbrev pub invariant-loop-label : goal.invariant-loop-label
invariant-loop-label l = index_of (drop l.label-index l.labels) l.id ≡ index_of l.labels l.id
