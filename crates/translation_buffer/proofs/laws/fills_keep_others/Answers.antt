use Rattle.translation_buffer.proofs.FilledPages.{fill_keeps}
use Rattle.translation_buffer.proofs.laws.fills_keep_others.Goals as goal

pub returns : goal.returns
returns c = fill_keeps
