use Rattle.std.proofs.Common.{subst, sym}
use Rattle.std.specs.Prelude.{IfSome}
use Rattle.translation_buffer.specs.Serving.{AllLackPage}
use Rattle.translation_buffer.proofs.slots.Slots.drop_pages.Goals as goal

pub returns-in-Some-clause-stand : goal.returns-in-Some-clause-stand
returns-in-Some-clause-stand c = λ read memory under run all. c.drop_page-in-Some.ensures.stand read memory under run (c.drop_page.ensures.stand read memory under run all)

pub returns-in-Some-clause-tags : goal.returns-in-Some-clause-tags
returns-in-Some-clause-tags c = λ run all. c.drop_page-in-Some.ensures.tags run (c.drop_page.ensures.tags run all)

pub returns-in-Some-clause-lack : goal.returns-in-Some-clause-lack
returns-in-Some-clause-lack c = λ all. (
  c.drop_page-in-Some.ensures.others c.args.page (c.drop_page.ensures.lack all),
  subst (λ o. IfSome o (λ p. AllLackPage p c.drop_page-in-Some.new.self)) (sym c.in-Some.is) (c.drop_page-in-Some.ensures.lack (c.drop_page.ensures.homes all)),
)
