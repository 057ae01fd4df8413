use Rattle.std.proofs.Common.{◌≡◌, nat_le, rules}
use Rattle.arch_defs.specs.Inputs.{has_input}
use Rattle.console_dev.proofs.Arrivals.{none_exactly}
use Rattle.console_dev.proofs.consoles.Console.has_input.Goals as goal

pub returns-in-Some-clause-none : goal.returns-in-Some-clause-none
returns-in-Some-clause-none c =
    let inputs = c.args.self.now.inputs in
    let first : nat_le c.in-Some.field-0.now.0 c.args.clock ≡ has_input inputs c.args.clock = search rules in
    let order = rw c.unread.ensures.inputs at c.unread.ensures.given.order in
    rw first (none_exactly inputs c.args.clock order)
