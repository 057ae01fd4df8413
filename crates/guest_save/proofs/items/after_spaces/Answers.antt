use Rattle.guest_save.proofs.Parsing.{after_one, none_after}
use Rattle.guest_save.proofs.items.after_spaces.Goals as goal

pub loop-i-init : goal.loop-i-init
loop-i-init c = none_after c.args.bytes.now

pub loop-i-preserved : goal.loop-i-preserved
loop-i-preserved c = after_one c.loop-i.i c.args.bytes.now c.loop-i.rest.now c.after_space-rest.result.now c.loop-i.invariant c.after_space-rest.ensures
