use Rattle.std.proofs.Common.{◌≡◌, false, refl, rules}
use Rattle.arch_defs.specs.Inputs.{has_input}
use Rattle.console_dev.proofs.Arrivals.{none_exactly}
use Rattle.console_dev.proofs.consoles.Console.get.Goals as goal

pub returns-in_default-clause-none : goal.returns-in_default-clause-none
returns-in_default-clause-none c =
    let inputs = c.args.self.now.inputs in
    let none : has_input inputs c.args.clock ≡ false = search rules in
    let order = rw c.unread.ensures.inputs at c.unread.ensures.given.order in
    (λ _. (none_exactly inputs c.args.clock order).0 none, λ _. refl)
