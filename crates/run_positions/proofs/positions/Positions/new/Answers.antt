use Rattle.std.proofs.Common.{subst}
use Rattle.form_pool.specs.Forms.{Forms}
use Rattle.run_positions.specs.Positions.{HasKept}
use Rattle.run_positions.proofs.Moving.{begun}
use Rattle.run_positions.proofs.positions.Positions.new.Goals as goal

pub returns-clause-held : goal.returns-clause-held
returns-clause-held g c =
    let R = g.R.Runner in
    let forms = c.keep_state.new.forms in
    let kept = subst (λ (none : Forms). HasKept R (R.machine c.args.runner) none forms) c.new-forms.ensures c.in_ok-keep_state.ensures.kept in
    begun R c.args.runner forms c.new.result c.new-2.result 16384 16384 kept c.requires c.new.ensures.items
