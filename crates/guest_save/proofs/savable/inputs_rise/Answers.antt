use Rattle.guest_save.proofs.Testing.{all_early, all_in_order, rise_falls, rise_more, rise_none}
use Rattle.guest_save.proofs.savable.inputs_rise.Goals as goal

pub loop-moment-init : goal.loop-moment-init
loop-moment-init c = rise_none c.args.inputs.now

pub loop-moment-preserved : goal.loop-moment-preserved
loop-moment-preserved c =
    rise_more c.args.inputs.now c.loop-moment.moment-index c.loop-moment.before (0, 0) c.loop-moment.invariant c.loop-moment-test.true
    c.if-moment.false c.if-moment-before.false

pub returns-then-moment-before-clause-only : goal.returns-then-moment-before-clause-only
returns-then-moment-before-clause-only c = λ early order.
    absurd (rise_falls c.args.inputs.now c.loop-moment.moment-index c.loop-moment.before (0, 0) c.loop-moment.invariant
    c.loop-moment-test.true c.if-moment-before.true order)

pub returns-clause-late : goal.returns-clause-late
returns-clause-late c = λ h. all_early c.args.inputs.now c.loop-moment.moment-index c.loop-moment.before c.loop-moment.invariant c.loop-moment-test.false

pub returns-clause-order : goal.returns-clause-order
returns-clause-order c = λ h. all_in_order c.args.inputs.now c.loop-moment.moment-index c.loop-moment.before c.loop-moment.invariant c.loop-moment-test.false
