use Rattle.std.proofs.Common.{ap, ◌∙◌, ◌++◌, arith}
use Rattle.rv64_asm.proofs.Loops.{faultless, coded, no_code_left}
use Rattle.rv64_asm.proofs.images.assemble.Goals as goal

pub word-word-requires : goal.word-word-requires
word-word-requires c = (faultless c.args.labels.now c.args.lines.now c.loop-index.index c.index-lines-index.result
    c.index-lines-index.is (omega arith) c.loop-index.invariant.faults).0

pub loop-index-preserved : goal.loop-index-preserved
loop-index-preserved c = record {
  within = omega arith;
  faults = (faultless c.args.labels.now c.args.lines.now c.loop-index.index c.index-lines-index.result
      c.index-lines-index.is (omega arith) c.loop-index.invariant.faults).1;
  code = coded c.args.labels.now c.args.lines.now c.loop-index.index c.index-lines-index.result c.word-word.result
      c.loop-index.bytes.items _ c.index-lines-index.is (omega arith) c.word-word.ensures
      (c.in_ok-extend_from_slice.ensures.items ∙ ap (λ b. c.loop-index.bytes.items ++ b) c.to_le_bytes.ensures)
      c.loop-index.invariant.code;
}

pub returns : goal.returns
returns c = no_code_left c.args.labels.now c.args.lines.now c.loop-index.index c.loop-index.bytes.items (omega arith)
    c.loop-index.invariant.code
