-- The line that tells of an end.
use Rattle.std.specs.Prelude.{ℕ, List}
use Rattle.nesthv_top.specs.declared.ends.Ended.{Ended}
use Rattle.nesthv_top.specs.declared.ends.Ended.TheVariants.{NoCommand}
use Rattle.nesthv_top.specs.Endings.{SaysOfErr}
use Rattle.nesthv_top.specs.Written.{IsLinePut}
use Rattle.outside.specs.declared.sinks.Sink as sinks

-- the line that tells of an end: that of `nesthv`, but for the usage, which is this
abbrev pub SaysOfLine : {Z : Type 0} → sinks.Ghosts Z → List ℕ → Ended → Z → Z → Type 0
SaysOfLine E usage NoCommand old new = IsLinePut E old new usage
SaysOfLine E usage other old new = SaysOfErr E other old new
