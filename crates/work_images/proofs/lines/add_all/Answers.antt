use Rattle.std.proofs.Common.{sym, ap, ◌∙◌, arith}
use Rattle.work_images.specs.Lines.{can_add_all, with_all_lines}
use Rattle.work_images.proofs.Adding.{can_add_next, with_lines_left, with_no_lines_left}
use Rattle.std.proofs.Common.{drop, ◌+◌}
use Rattle.work_images.proofs.lines.add_all.Goals as goal

pub add-requires : goal.add-requires
add-requires c = (can_add_next c.loop-line.image c.args.lines.now c.loop-line.line-index c.line-item.result c.line-item.is (omega arith)
    c.loop-line.invariant.can).0

pub loop-line-preserved : goal.loop-line-preserved
loop-line-preserved c = record {
  can = ap (λ p. can_add_all p (drop (c.loop-line.line-index + 1) c.args.lines.now)) c.in_ok-add.ensures
      ∙ (can_add_next c.loop-line.image c.args.lines.now c.loop-line.line-index c.line-item.result c.line-item.is (omega arith)
      c.loop-line.invariant.can).1;
  left = ap (λ p. with_all_lines p (drop (c.loop-line.line-index + 1) c.args.lines.now)) c.in_ok-add.ensures
      ∙ sym (with_lines_left c.loop-line.image c.args.lines.now c.loop-line.line-index c.line-item.result c.line-item.is (omega arith))
      ∙ c.loop-line.invariant.left;
}

pub returns : goal.returns
returns c = sym (with_no_lines_left c.loop-line.image c.args.lines.now c.loop-line.line-index (omega arith)) ∙ c.loop-line.invariant.left
