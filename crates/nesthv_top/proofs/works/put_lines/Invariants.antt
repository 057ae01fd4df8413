use Rattle.std.proofs.Common.{◌≡◌, ◌≤◌}
use Rattle.outside.specs.Pieces.{Appends}
use Rattle.nesthv_top.specs.Runnings.{work_names}
use Rattle.nesthv_top.specs.Works.{line_of}
use Rattle.nesthv_top.proofs.Sectioning.{said_to}
use Rattle.nesthv_top.proofs.works.put_lines.Given as goal

abbrev pub invariant-loop-i : goal.invariant-loop-i
invariant-loop-i g l = record {
  put : Appends g.O.Sink.stands_for l.fn.out l.out (said_to line_of work_names l.host.machines l.i);
  count : g.O.Sink.faults l.fn.out ≤ g.O.Sink.faults l.out;
  stays : g.O.Sink.made_with l.out ≡ g.O.Sink.made_with l.fn.out;
}
