use Rattle.std.proofs.Common.{ap, ◌∙◌}
use Rattle.work_images.specs.Numbers.{number, drawn}
use Rattle.work_images.proofs.Drawing.{one_number_more, one_byte_more, no_noise}
use Rattle.work_images.proofs.noises.noise.Goals as goal

pub loop-done-init : goal.loop-done-init
unfolding number
loop-done-init c = record {
  numbers = c.new-numbers.ensures;
  bytes = c.new-bytes.ensures.items ∙ no_noise c.args.seed;
}

pub loop-done-preserved : goal.loop-done-preserved
loop-done-preserved c =
    let next = one_number_more c.args.seed c.loop-done._done c.loop-done.numbers c.draw-byte.new.self
    c.loop-done.invariant.numbers c.draw-byte.ensures.next in
    record {
      numbers = next;
      bytes = one_byte_more c.args.seed c.loop-done._done c.draw-byte.result c.loop-done.bytes.items c.push.new.self.items
          (c.draw-byte.ensures.value ∙ ap (drawn 256) next) c.loop-done.invariant.bytes c.in_ok-push.ensures.items;
    }
