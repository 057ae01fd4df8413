use Rattle.arch_defs.specs.FirstBuffers.{is_named_by}
use Rattle.arch_defs.proofs.FirstSlots.{left}
use Rattle.arch_defs.proofs.first_buffers.FirstBuffer.drop_each.Goals as goal

pub invariant_of-self : goal.invariant_of-self
invariant_of-self c =
    left c.keep_unnamed-kept.result c.self.inside.count c.self.inside.slots c.keep_unnamed-kept.new.slots c.empty.new.slots (is_named_by c.args.named.now)
    c.keep_unnamed-kept.ensures.few c.self.invariant.0 c.empty.ensures.size c.empty.ensures.front c.keep_unnamed-kept.ensures.kept c.empty.ensures.empty c.self.invariant.3
