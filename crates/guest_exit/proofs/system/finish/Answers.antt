use Rattle.std.proofs.Common.{sym, ◌∙◌}
use Rattle.arch_defs.specs.WalkedEntries.{folds}
use Rattle.guest_exit.proofs.Alone.{finish_stays, folds_then, sets_v}
use Rattle.guest_exit.proofs.system.finish.Goals as goal

pub enter_space-requires-clause-folds : goal.enter_space-requires-clause-folds
enter_space-requires-clause-folds c =
    folds_then c.args.nested (folds c.args.guest.now.virt) (sym c.enters.ensures ∙ c.if-enters.true)

pub returns-then-enters-clause-step : goal.returns-then-enters-clause-step
returns-then-enters-clause-step c = λ before own same.
    c.enter_space.ensures.step before (own ∙ sets_v c.args.nested (folds c.args.guest.now.virt) (sym c.enters.ensures ∙ c.if-enters.true)) same

pub returns-clause-step : goal.returns-clause-step
returns-clause-step c =
    finish_stays c.args.guest.now c.tick.new.self c.args.memory.now c.args.nested (sym c.enters.ensures ∙ c.if-enters.false)
    c.tick.ensures.goes.keeps c.tick.ensures.platform
