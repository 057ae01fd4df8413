use Rattle.std.proofs.Common.{sym, ◌∙◌}
use Rattle.translation_buffer.proofs.Homes.{page_dropped, page_kept}
use Rattle.translation_buffer.proofs.slots.drop_at_home.Goals as goal

pub returns-then-is_of-clause-lack : goal.returns-then-is_of-clause-lack
returns-then-is_of-clause-lack c =
    page_dropped c.args.slots.now c.home-at.result c.args.page _ c.home-at.ensures.inside c.home-at.ensures.value c.none.ensures.tag

pub returns-else-is_of-clause-lack : goal.returns-else-is_of-clause-lack
returns-else-is_of-clause-lack c =
    page_kept c.args.slots.now c.home-at.result c.args.page _ c.home-at.ensures.inside c.home-at.ensures.value (sym c.is_of.ensures ∙ c.if-is_of.false)
