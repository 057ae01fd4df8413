use Rattle.std.proofs.Common.{◌≡◌, ◌*◌, ap, ◌∙◌, arith}
use Rattle.work_images.specs.Numbers.{number}
use Rattle.work_images.proofs.Drawing.{next_guest}
use Rattle.work_images.proofs.Images.{all_guests, one_guest_more}
use Rattle.work_images.proofs.generated.guests.Goals as goal

pub loop-g-init : goal.loop-g-init
unfolding number
loop-g-init c = record {
  numbers = let none : 0 ≡ 4 * (c.args.size * 0) = omega arith in c.new-numbers.ensures ∙ ap (number c.args.seed) none;
  guests = c.new-guests.ensures.items;
}

pub loop-g-preserved : goal.loop-g-preserved
loop-g-preserved c = record {
  numbers = next_guest c.args.seed c.args.size c.loop-g.g c.loop-g.numbers c.drawn_image.new.numbers c.loop-g.invariant.numbers
      c.in_ok-image.ensures.numbers;
  guests = one_guest_more c.args.seed c.args.size c.loop-g.g c.loop-g.numbers c.in_ok-image.image.items c.in_ok-guest_with.field-0
      c.loop-g.guests.items c.push.new.self.items c.loop-g.invariant.numbers c.in_ok-image.ensures.image c.in_ok-guest_with.ensures
      c.loop-g.invariant.guests c.in_ok-push.ensures.items;
}

pub returns : goal.returns
returns c = all_guests c.args.seed c.args.size c.loop-g.g c.loop-g.guests.items (omega arith) c.loop-g.invariant.guests
