use Rattle.arch_defs.proofs.FrameSets.{kept}
use Rattle.arch_defs.proofs.laws.frames_apart_stay.Goals as goal

pub returns : goal.returns
returns c = kept
