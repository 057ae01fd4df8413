use Rattle.translation_buffer.proofs.Holding.{none_held}
use Rattle.translation_buffer.proofs.frame_sets.FrameSet.new.Goals as goal

pub returns : goal.returns
returns c = none_held _ c.no_keys.ensures
