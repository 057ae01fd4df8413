use Rattle.std.proofs.Common.{◌≤◌, map, take}
use Rattle.log_lines.specs.declared.lines.Line.TheVariants as line
use Rattle.outside.specs.Pieces.{Appends}
use Rattle.run_log.specs.Log.{text_of_lines}
use Rattle.step_logs.proofs.step_texts.put_bytes.Given as goal

abbrev pub invariant-loop-i : goal.invariant-loop-i
invariant-loop-i g l = record {
  put : Appends g.O.Sink.stands_for l.fn.out l.out (text_of_lines (map (λ byte. line.Put l.head byte) (take l.i l.bytes)));
  count : g.O.Sink.faults l.fn.out ≤ g.O.Sink.faults l.out;
}
