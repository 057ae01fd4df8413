use Rattle.std.proofs.Common.{◌∙◌}
use Rattle.translation_buffer.specs.Serving.{LacksBit}
use Rattle.translation_buffer.proofs.DroppedSlots.{each_more, left_more}
use Rattle.translation_buffer.proofs.slots.drop_each.Goals as goal

pub loop-at-preserved : goal.loop-at-preserved
loop-at-preserved c = record {
  size = c.drop_at.ensures.size ∙ c.loop-at.invariant.size;
  left = left_more _ _ _ c.loop-at.invariant.left c.drop_at.ensures.left;
  lack = each_more (LacksBit c.args.frame) c.loop-at.slots c.drop_at.new.slots c.loop-at.at c.drop_at.ensures.lacks c.drop_at.ensures.others c.loop-at.invariant.lack;
}
