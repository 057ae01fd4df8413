use Rattle.std.proofs.Common.{◌≤◌, map}
use Rattle.log_lines.specs.declared.lines.Line.TheVariants as line
use Rattle.log_writer.proofs.Putting.{PutsRest}
use Rattle.log_writer.proofs.counts.Counts.put.Given as goal

abbrev pub invariant-loop-line : goal.invariant-loop-line
invariant-loop-line g l = record {
  left : PutsRest g.O.Sink.stands_for l.fn.out l.out (map line.Count l.line-iterator) (map line.Count l.fn.self);
  count : g.O.Sink.faults l.fn.out ≤ g.O.Sink.faults l.out;
}
