use Rattle.std.proofs.Common.{◌≡◌}
use Rattle.std.specs.Prelude.{map}
use Rattle.std.specs.List.{range_with_len}
use Rattle.work_images.specs.Lines.{with_all_lines}
use Rattle.work_images.specs.Program.{letter}
use Rattle.work_images.proofs.program.add_letters.Given as goal

abbrev pub invariant-loop-page : goal.invariant-loop-page
invariant-loop-page l = l.image ≡ with_all_lines l.fn.image (map letter (range_with_len 0 l.page))
