use Rattle.std.proofs.Common.{◌≡◌, ◌+◌, ◌-◌, ◌≤◌, length}
use Rattle.log_lines.specs.Kinds.{kinds_into, kind_names, no_kinds}
use Rattle.log_lines.proofs.Names.{names_from}
use Rattle.log_lines.proofs.kinds.kinds_of.Given as goal

abbrev pub invariant-loop-place : goal.invariant-loop-place
invariant-loop-place l =
    (l.place ≤ length l.word + 1) × (kinds_into (names_from l.place l.word) l.kinds ≡ kinds_into (kind_names l.word) no_kinds)

abbrev pub decreases-loop-place : goal.decreases-loop-place
decreases-loop-place l = length l.word + 1 - l.place
