use Rattle.std.proofs.Common.{arith}
use Rattle.rv64_asm.proofs.Loops.{last_end_left}
use Rattle.rv64_asm.proofs.pieces.last_end.Goals as goal

pub loop-placed-preserved : goal.loop-placed-preserved
loop-placed-preserved c = let e = last_end_left c.args.pieces.now c.loop-placed.placed-index c.placed-item.result c.placed-item.is (omega arith) in
    (omega arith, omega arith)
