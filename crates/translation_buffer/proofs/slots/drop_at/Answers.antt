use Rattle.std.proofs.Common.{sym, ◌∙◌}
use Rattle.translation_buffer.proofs.DroppedSlots.{lacks_kept}
use Rattle.translation_buffer.proofs.slots.drop_at.Goals as goal

pub returns-else-has_bit-clause-lacks : goal.returns-else-has_bit-clause-lacks
returns-else-has_bit-clause-lacks c = λ other.
    lacks_kept c.args.slots.now c.args.at c.args.frame _ other c.requires.inside (sym c.has_bit.ensures ∙ c.if-has_bit.false)
