use Rattle.std.proofs.Common.{slice_index, ◌∙◌, arith}
use Rattle.rv64_asm.proofs.Loops.{last_end_left, one_more, covered}
use Rattle.rv64_asm.proofs.pieces.lay_all.Goals as goal

pub lay-requires : goal.lay-requires
lay-requires c = omega (arith, last_end_left c.args.pieces.now c.loop-piece.piece-index c.piece-item.result c.piece-item.is (omega arith), c.loop-piece.invariant.ends)

pub loop-piece-preserved : goal.loop-piece-preserved
loop-piece-preserved c = record {
  ends = omega (arith, last_end_left c.args.pieces.now c.loop-piece.piece-index c.piece-item.result c.piece-item.is (omega arith), c.loop-piece.invariant.ends, c.lay.ensures.size);
  size = c.lay.ensures.size ∙ c.loop-piece.invariant.size;
  bytes = λ place. one_more c.args.pieces.now c.loop-piece.piece-index place c.piece-item.result (slice_index c.loop-piece.bytes place) _ _
      c.piece-item.is (omega arith) (c.lay.ensures.bytes place) (c.loop-piece.invariant.bytes place);
}

pub returns-clause-bytes : goal.returns-clause-bytes
returns-clause-bytes c = λ place. covered c.args.pieces.now c.loop-piece.piece-index place _ _ (omega arith) (c.loop-piece.invariant.bytes place)
