use Rattle.std.proofs.Common.{◌≡◌, ◌*◌}
use Rattle.std.specs.Prelude.{map}
use Rattle.std.specs.List.{range_with_len}
use Rattle.work_images.specs.Numbers.{number}
use Rattle.work_images.specs.Guests.{guest}
use Rattle.work_images.proofs.generated.guests.Given as goal

abbrev pub invariant-loop-g : goal.invariant-loop-g
invariant-loop-g l = record {
  numbers : l.numbers ≡ number l.seed (4 * (l.size * l.g));
  guests : l.guests.items ≡ map (guest l.seed l.size) (range_with_len 0 l.g);
}
