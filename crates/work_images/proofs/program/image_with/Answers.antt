use Rattle.std.proofs.Common.{ap, ◌∙◌}
use Rattle.work_images.specs.Guests.{image_bytes}
use Rattle.work_images.proofs.Parts.{faultless, plan_is}
use Rattle.work_images.proofs.Images.{image_is}
use Rattle.work_images.proofs.program.image_with.Goals as goal

-- the program has no fault
pub unreachable-requires : goal.unreachable-requires
unreachable-requires c = cc (
  c.in-Err-TooFar.ensures.err (λ e. (cc)),
  faultless c.new-image.result c.add_program.new.image c.place.new.self c.args.commands.now
      c.new-image.ensures c.in_ok-add_program.ensures c.in_ok-place.ensures.ok,
)

pub unreachable-requires-in-Err-NoLabel : goal.unreachable-requires-in-Err-NoLabel
unreachable-requires-in-Err-NoLabel c = cc (
  c.in-Err-NoLabel.ensures.err (λ e. (cc)),
  faultless c.new-image.result c.add_program.new.image c.place.new.self c.args.commands.now
      c.new-image.ensures c.in_ok-add_program.ensures c.in_ok-place.ensures.ok,
)

pub returns-in-Ok : goal.returns-in-Ok
returns-in-Ok c = image_is c.place.new.self _ c.in-Ok.ensures.image
    ∙ ap image_bytes (plan_is c.new-image.result c.add_program.new.image c.place.new.self c.args.commands.now c.new-image.ensures
    c.in_ok-add_program.ensures c.in_ok-place.ensures.ok)
