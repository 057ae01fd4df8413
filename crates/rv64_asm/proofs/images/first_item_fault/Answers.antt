use Rattle.std.proofs.Common.{sym, ◌∙◌, arith}
use Rattle.rv64_asm.proofs.Loops.{faulty, goes_on}
use Rattle.rv64_asm.proofs.images.first_item_fault.Goals as goal

pub returns-then-is_some : goal.returns-then-is_some
returns-then-is_some c = faulty c.args.labels.now c.args.lines.now c.loop-index.index c.index-lines-index.result
    c.fault-fault.result c.index-lines-index.is (omega arith) c.fault-fault.ensures (sym c.is_some.ensures ∙ c.if-is_some.true)
    c.loop-index.invariant.faults

pub loop-index-preserved : goal.loop-index-preserved
loop-index-preserved c = record {
  within = omega arith;
  faults = goes_on c.args.labels.now c.args.lines.now c.loop-index.index c.index-lines-index.result
      c.fault-fault.result c.index-lines-index.is (omega arith) c.fault-fault.ensures (sym c.is_some.ensures ∙ c.if-is_some.false)
      c.loop-index.invariant.faults;
}
