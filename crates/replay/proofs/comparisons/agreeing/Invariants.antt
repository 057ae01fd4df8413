use Rattle.std.proofs.Common.{◌≡◌, ◌+◌, ◌-◌, drop, length}
use Rattle.replay.specs.Comparisons.{agreeing}
use Rattle.replay.proofs.comparisons.agreeing.Given as goal

abbrev pub invariant-loop-alike : goal.invariant-loop-alike
invariant-loop-alike l = l.alike + agreeing (drop l.alike l.expected) (drop l.alike l.bytes) ≡ agreeing l.expected l.bytes

abbrev pub decreases-loop-alike : goal.decreases-loop-alike
decreases-loop-alike l = length l.expected - l.alike
