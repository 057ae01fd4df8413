use Rattle.std.proofs.Common.{refl}
use Rattle.arch_defs.specs.Translation.{privilege_of}
use Rattle.translation_buffer.specs.Holding.{has_frame}
use Rattle.translation_buffer.specs.Places.{translator}
use Rattle.translation_buffer.proofs.DroppedSlots.{all_without}
use Rattle.translation_buffer.proofs.buffers.Buffer.drop_read.Goals as goal

pub returns-clause-apart : goal.returns-clause-apart
returns-clause-apart c = c.remove.ensures.removed c.args.frame refl

pub returns-clause-serves : goal.returns-clause-serves
returns-clause-serves c = λ first owner csrs mode memory serves. record {
  context = serves.context;
  who = serves.who;
  slots = all_without c.args.self.now.read c.remove.new.self c.args.frame memory (translator first owner c.args.self.now.context) c.args.self.now.run c.drop_read.new.self c.remove.ensures.others c.drop_read.ensures.lack
      (c.drop_read.ensures.stand c.args.self.now.read memory (translator first owner c.args.self.now.context) c.args.self.now.run serves.slots);
  page = c.forget.ensures.stands (has_frame c.remove.new.self) memory (translator first owner c.args.self.now.context) (privilege_of csrs mode);
}

pub invariant_of-self : goal.invariant_of-self
invariant_of-self c = record { few = c.args.self.now.few; tags = c.drop_read.ensures.tags c.args.self.now.run c.args.self.now.tags; homes = c.drop_read.ensures.homes c.args.self.now.homes }
