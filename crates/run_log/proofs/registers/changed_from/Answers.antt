use Rattle.std.proofs.Common.{rules, sym, ◌∙◌, ◌<◌, ◌≡◌, true, false}
use Rattle.run_log.specs.Steps.{is_changed}
use Rattle.run_log.proofs.Changed.{changed_here, changed_later}
use Rattle.run_log.proofs.registers.changed_from.Goals as goal

pub returns-then-before-number : goal.returns-then-before-number
returns-then-before-number c =
    let before = c.args.before.now in
    let after = c.args.after.now in
    let number = c.loop-number.number in
    let within : number < 32 = search rules in
    let differs : is_changed before after number ≡ true = search rules in
    rw (sym c.loop-number.invariant ∙ changed_here before after number within differs) (search rules)

pub loop-number-preserved : goal.loop-number-preserved
loop-number-preserved c =
    let before = c.args.before.now in
    let after = c.args.after.now in
    let number = c.loop-number.number in
    let within : number < 32 = search rules in
    let same : is_changed before after number ≡ false = search rules in
    sym (changed_later before after number within same) ∙ c.loop-number.invariant
