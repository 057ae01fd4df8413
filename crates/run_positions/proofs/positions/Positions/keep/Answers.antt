use Rattle.std.proofs.Common.{◌≡◌, ℕ, ◌^◌, ◌≤◌, refl, subst}
use Rattle.run_positions.proofs.Moving.{state_kept}
use Rattle.run_positions.proofs.positions.Positions.keep.Goals as goal

pub returns-in-Ok-clause-keeps : goal.returns-in-Ok-clause-keeps
returns-in-Ok-clause-keeps g c =
    let early : (g.R.Runner.machine c.args.self.now.runner).platform.steps ≤ 2 ^ 60 =
    subst (λ n. n ≤ 2 ^ 60) c.steps.ensures c.if-steps-le-KEPT_STEPS.true in
    state_kept g.R.Runner c.args.self.now c.keep_state.new.forms c.add_state.new.kept
    (record { place = c.args.self.now.place; form = c.count-form.result })
    c.saturating_add-self-2.result c.saturating_add-self.result c.requires.held c.in-Ok.ensures.kept early refl
    c.count-form.ensures c.add_state.ensures
