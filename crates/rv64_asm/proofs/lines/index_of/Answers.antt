use Rattle.std.proofs.Common.{arith}
use Rattle.rv64_asm.proofs.Loops.{found, not_found}
use Rattle.rv64_asm.proofs.lines.index_of.Goals as goal

pub returns-then-id : goal.returns-then-id
returns-then-id c = found c.args.labels.now c.loop-label.label-index c.args.id c.label-item.result c.index.result c.label-item.is (omega arith)
    c.loop-label.invariant (omega arith) c.index.ensures

pub loop-label-preserved : goal.loop-label-preserved
loop-label-preserved c = not_found c.args.labels.now c.loop-label.label-index c.args.id c.label-item.result c.label-item.is (omega arith)
    c.loop-label.invariant (λ e. omega arith)
