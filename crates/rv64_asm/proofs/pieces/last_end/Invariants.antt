use Rattle.std.proofs.Common.{◌≡◌, ◌^◌, ◌≤◌, drop}
use Rattle.std.specs.Prelude.{max}
use Rattle.rv64_asm.specs.Plans.{last_end}
use Rattle.rv64_asm.proofs.pieces.last_end.Given as goal

abbrev pub invariant-loop-placed : goal.invariant-loop-placed
invariant-loop-placed l = (max l.last (last_end (drop l.placed-index l.pieces)) ≡ last_end l.pieces) × (l.last ≤ 2 ^ 26)
