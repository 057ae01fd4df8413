use Rattle.std.proofs.Common.{◌∙◌, refl, arith}
use Rattle.std.proofs.lemmas.List.{length-set}
use Rattle.guest_save.specs.Numbers.{number_in}
use Rattle.guest_save.proofs.Parsing.{left_then, none_read, one_more_number}
use Rattle.guest_save.proofs.numbers.numbers_in.Goals as goal

pub loop-i-init : goal.loop-i-init
loop-i-init c = record { filled = none_read number_in 8 c.args.bytes.now; rest = refl; size = refl }

pub loop-i-preserved : goal.loop-i-preserved
loop-i-preserved c = record {
  filled = one_more_number c.loop-i.into c.loop-i.i c.number_in.result c.loop-i.rest.now c.args.bytes.now
      (omega (arith, c.loop-i-test.true, c.loop-i.invariant.size)) c.loop-i.invariant.rest c.number_in.ensures c.loop-i.invariant.filled;
  rest = left_then number_in 8 c.loop-i.i c.args.bytes.now c.loop-i.rest.now c.after-rest.result.now c.loop-i.invariant.rest c.after-rest.ensures;
  size = length-set c.loop-i.into c.loop-i.i c.number_in.result ∙ c.loop-i.invariant.size;
}
