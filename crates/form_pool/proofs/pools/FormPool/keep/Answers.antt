use Rattle.std.proofs.Common.{◌∙◌, ◌∷◌, [], ◌++◌, ap}
use Rattle.form_pool.specs.Forms.{Forms}
use Rattle.form_pool.proofs.Sharing.{is_kept}
use Rattle.form_pool.proofs.pools.FormPool.keep.Goals as goal

pub returns-clause-ok : goal.returns-clause-ok
returns-clause-ok c =
    is_kept c.self.inside c.push.new.self c.clear.new.self c.in_ok-list.list.items c.in_ok-push.ensures.items
    (c.in_ok-list.ensures.items ∙ c.as_slice.ensures.value) c.clear.ensures.items
    ∙ ap (λ (forms : Forms). record { kept = forms.kept ++ forms.partial ∷ []; partial = []; faults = forms.faults }) c.self.view_is
