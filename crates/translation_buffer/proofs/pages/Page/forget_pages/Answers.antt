use Rattle.std.proofs.Common.{subst, sym}
use Rattle.std.specs.Prelude.{IfSome}
use Rattle.translation_buffer.specs.Serving.{IsOffPage}
use Rattle.translation_buffer.proofs.pages.Page.forget_pages.Goals as goal

pub returns-in-Some-clause-stands : goal.returns-in-Some-clause-stands
returns-in-Some-clause-stands c = λ frames memory under who stands.
    c.forget_page-in-Some.ensures.stands frames memory under who (c.forget_page.ensures.stands frames memory under who stands)

pub returns-in-Some-clause-off : goal.returns-in-Some-clause-off
returns-in-Some-clause-off c = (
  c.forget_page-in-Some.ensures.others c.args.page c.forget_page.ensures.off,
  subst (λ o. IfSome o (λ p. IsOffPage p c.forget_page-in-Some.new.self)) (sym c.in-Some.is) c.forget_page-in-Some.ensures.off,
)
