use Rattle.std.proofs.Common.{rules, ◌≡◌, false, subst}
use Rattle.rv64_hart.specs.Endings.{HasSameTranslation, Unless}
use Rattle.rv64_hart.proofs.Kept.{serves_alike}
use Rattle.rv64_hart.proofs.rare_instructions.settle_access.Goals as goal

pub returns-then-changes-clause-serves : goal.returns-then-changes-clause-serves
returns-then-changes-clause-serves c = λ before mode_before memory same serves. c.settle.ensures.serves before mode_before memory serves

pub returns-else-changes-clause-serves : goal.returns-else-changes-clause-serves
returns-else-changes-clause-serves c =
    let none : c.args.changes ≡ false = search rules in
    λ before mode_before memory same serves.
    serves_alike c.cache.new.buffer c.cache.new.first c.args.state.now.tag before mode_before c.args.state.now.virt.csrs c.args.state.now.virt.mode memory
    (subst (λ b. Unless b (HasSameTranslation before mode_before c.args.state.now.virt.csrs c.args.state.now.virt.mode)) none same)
    (c.cache.ensures.serves c.args.state.now.tag before mode_before memory serves)
