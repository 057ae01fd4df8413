use Rattle.frame_split.specs.Shares.{SoFar}
use Rattle.frame_split.proofs.planning.share.Given as goal

abbrev pub invariant-loop-i : goal.invariant-loop-i
invariant-loop-i l = SoFar l.needs l.i l.parts.items l.fn.start l.free l.frames
