use Rattle.std.proofs.Common.{sym, subst}
use Rattle.arch_defs.specs.Translation.{privilege_of}
use Rattle.translation_buffer.specs.Holding.{has_frame}
use Rattle.translation_buffer.specs.Places.{translator}
use Rattle.translation_buffer.specs.Serving.{AllStand, PageStands}
use Rattle.translation_buffer.proofs.FilledPages.{all_filled_stand, page_filled}
use Rattle.translation_buffer.proofs.buffers.Buffer.fill.Goals as goal

pub returns-clause-serves : goal.returns-clause-serves
returns-clause-serves c = λ owner csrs mode memory serves. record {
  context = serves.context;
  who = serves.who;
  slots = subst (λ first. AllStand c.args.self.now.read memory (translator first owner c.args.self.now.context) c.args.self.now.run c.drop_pages.new.self) (sym c.fill-dropped.ensures.filled)
      (all_filled_stand c.args.self.now.read memory c.args.first.now c.args.entry c.fill-dropped.result owner c.args.self.now.context c.args.self.now.run c.drop_pages.new.self
      c.fill-dropped.ensures.dropped (c.drop_pages.ensures.lack c.args.self.now.homes)
      (c.drop_pages.ensures.stand c.args.self.now.read memory (translator c.args.first.now owner c.args.self.now.context) c.args.self.now.run serves.slots));
  page = subst (λ first. PageStands (has_frame c.args.self.now.read) memory (translator first owner c.args.self.now.context) (privilege_of csrs mode) c.forget_pages.new.self) (sym c.fill-dropped.ensures.filled)
      (page_filled (has_frame c.args.self.now.read) memory c.args.first.now c.args.entry c.fill-dropped.result owner c.args.self.now.context (privilege_of csrs mode) c.forget_pages.new.self
      c.fill-dropped.ensures.dropped c.forget_pages.ensures.off
      (c.forget_pages.ensures.stands (has_frame c.args.self.now.read) memory (translator c.args.first.now owner c.args.self.now.context) (privilege_of csrs mode) serves.page));
}

pub invariant_of-self : goal.invariant_of-self
invariant_of-self c = record { few = c.args.self.now.few; tags = c.drop_pages.ensures.tags c.args.self.now.run c.args.self.now.tags; homes = c.drop_pages.ensures.homes c.args.self.now.homes }
