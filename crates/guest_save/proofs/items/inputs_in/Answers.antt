use Rattle.std.proofs.Common.{◌∙◌, refl}
use Rattle.guest_save.specs.Reading.{input_of}
use Rattle.guest_save.proofs.Parsing.{left_then, none_read, one_read}
use Rattle.guest_save.proofs.items.inputs_in.Goals as goal

pub loop-i-init : goal.loop-i-init
loop-i-init c = record { read = c.in_ok-inputs.ensures.items ∙ none_read input_of 9 c.args.bytes.now; rest = refl }

pub loop-i-preserved : goal.loop-i-preserved
loop-i-preserved c = record {
  read = one_read input_of 9 c.loop-i.inputs.items c.push.new.self.items c.loop-i.i c.args.bytes.now c.loop-i.rest.now c.input_of.result
      c.loop-i.invariant.read c.loop-i.invariant.rest c.input_of.ensures c.in_ok-push.ensures.items;
  rest = left_then input_of 9 c.loop-i.i c.args.bytes.now c.loop-i.rest.now c.after-rest.result.now c.loop-i.invariant.rest c.after-rest.ensures;
}
