use Rattle.arch_defs.specs.Translation.{privilege_of}
use Rattle.translation_buffer.specs.Holding.{has_frame}
use Rattle.translation_buffer.specs.Places.{translator}
use Rattle.translation_buffer.proofs.FencedPages.{all_fenced_stand, page_fenced}
use Rattle.translation_buffer.proofs.buffers.Buffer.drop_page.Goals as goal

pub returns-clause-serves : goal.returns-clause-serves
returns-clause-serves c = λ first owner csrs mode memory named spared serves. record {
  context = serves.context;
  who = serves.who;
  slots = all_fenced_stand c.args.self.now.read memory named c.args.page first owner c.args.self.now.context c.args.self.now.run c.drop_page.new.self
      spared (c.drop_page.ensures.lack c.args.self.now.homes)
      (c.drop_page.ensures.stand c.args.self.now.read memory (translator first owner c.args.self.now.context) c.args.self.now.run serves.slots);
  page = page_fenced (has_frame c.args.self.now.read) memory named c.args.page first owner c.args.self.now.context (privilege_of csrs mode) c.forget_page.new.self
      spared c.forget_page.ensures.off
      (c.forget_page.ensures.stands (has_frame c.args.self.now.read) memory (translator first owner c.args.self.now.context) (privilege_of csrs mode) serves.page);
}

pub invariant_of-self : goal.invariant_of-self
invariant_of-self c = record { few = c.args.self.now.few; tags = c.drop_page.ensures.tags c.args.self.now.run c.args.self.now.tags; homes = c.drop_page.ensures.homes c.args.self.now.homes }
