use Rattle.std.proofs.Common.{◌≡◌, ◌*◌, length}
use Rattle.std.specs.List.{flat_map}
use Rattle.work_images.specs.Numbers.{number}
use Rattle.work_images.specs.Commands.{command_bytes, commands_from}
use Rattle.work_images.proofs.commands.drawn_bytes.Given as goal

abbrev pub invariant-loop-done : goal.invariant-loop-done
invariant-loop-done l = record {
  numbers : l.numbers ≡ number l.fn.numbers (4 * l._done);
  bytes : l.bytes.items ≡ flat_map command_bytes (commands_from l.fn.numbers l._done);
  size : length l.bytes.items ≡ 32 * l._done;
}
