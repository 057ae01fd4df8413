use Rattle.std.proofs.Common.{◌∙◌}
use Rattle.guest_save.proofs.Parsing.{after_one, no_spaces, none_after, one_space}
use Rattle.guest_save.proofs.items.spaces_in.Goals as goal

pub loop-i-init : goal.loop-i-init
loop-i-init c = record { read = c.in_ok-spaces.ensures.items ∙ no_spaces c.args.bytes.now; rest = none_after c.args.bytes.now }

pub loop-i-preserved : goal.loop-i-preserved
loop-i-preserved c = record {
  read = one_space c.loop-i.spaces.items c.push.new.self.items c.loop-i.i c.args.bytes.now c.loop-i.rest.now c.in_ok-space_in.field-0
      c.loop-i.invariant.read c.loop-i.invariant.rest c.in_ok-space_in.ensures c.in_ok-push.ensures.items;
  rest = after_one c.loop-i.i c.args.bytes.now c.loop-i.rest.now c.after_space-rest.result.now c.loop-i.invariant.rest c.after_space-rest.ensures;
}
