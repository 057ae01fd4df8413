use Rattle.std.proofs.Common.{refl, ap, ◌∙◌, length, length-append, arith}
use Rattle.work_images.specs.Numbers.{number}
use Rattle.work_images.specs.Commands.{command_bytes}
use Rattle.work_images.proofs.Drawing.{next_number, no_commands, one_command_more}
use Rattle.work_images.proofs.commands.drawn_bytes.Goals as goal

pub loop-done-init : goal.loop-done-init
unfolding number
loop-done-init c = record {
  numbers = refl;
  bytes = c.new-bytes.ensures.items ∙ no_commands c.args.numbers.now;
  size = ap length c.new-bytes.ensures.items;
}

pub loop-done-preserved : goal.loop-done-preserved
loop-done-preserved c = record {
  numbers = next_number c.args.numbers.now c.loop-done._done c.loop-done.numbers c.drawn-command.new.numbers c.loop-done.invariant.numbers
      c.drawn-command.ensures.numbers;
  bytes = one_command_more c.args.numbers.now c.loop-done._done c.loop-done.numbers c.drawn-command.result c.loop-done.bytes.items
      c.append.new.bytes.items c.loop-done.invariant.numbers c.drawn-command.ensures.command c.loop-done.invariant.bytes c.in_ok-append.ensures;
  size = ap length c.in_ok-append.ensures ∙ length-append c.loop-done.bytes.items (command_bytes c.drawn-command.result)
      ∙ omega (arith, c.loop-done.invariant.size);
}
