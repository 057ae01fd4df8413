use Rattle.std.proofs.Common.{◌≡◌, drop, true}
use Rattle.work_images.specs.Lines.{can_add_all, with_all_lines}
use Rattle.work_images.proofs.lines.add_all.Given as goal

abbrev pub invariant-loop-line : goal.invariant-loop-line
invariant-loop-line l = record {
  can : can_add_all l.image (drop l.line-index l.lines) ≡ true;
  left : with_all_lines l.image (drop l.line-index l.lines) ≡ with_all_lines l.fn.image l.lines;
}
