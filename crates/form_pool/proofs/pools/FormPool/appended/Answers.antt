use Rattle.std.proofs.Common.{◌∙◌, ◌++◌, ap}
use Rattle.form_pool.specs.Forms.{Forms}
use Rattle.form_pool.proofs.Sharing.{is_appended}
use Rattle.form_pool.proofs.pools.FormPool.appended.Goals as goal

pub returns-then-is_ram-2-clause-ok : goal.returns-then-is_ram-2-clause-ok
returns-then-is_ram-2-clause-ok c =
    is_appended c.self.inside c.number_of.new.self c.push.new.self c.note.new.self c.args.bytes.now c.in_ok-number.number
    c.self.invariant c.number_of.ensures.stays c.in_ok-number.ensures.number c.in_ok-push.ensures.items
    ∙ ap (λ (forms : Forms). record forms { partial = forms.partial ++ c.args.bytes.now }) c.self.view_is

pub returns-else-is_ram-2-clause-ok : goal.returns-else-is_ram-2-clause-ok
returns-else-is_ram-2-clause-ok c =
    is_appended c.self.inside c.number_of.new.self c.push.new.self c.self.inside.trail c.args.bytes.now c.in_ok-number.number
    c.self.invariant c.number_of.ensures.stays c.in_ok-number.ensures.number c.in_ok-push.ensures.items
    ∙ ap (λ (forms : Forms). record forms { partial = forms.partial ++ c.args.bytes.now }) c.self.view_is
