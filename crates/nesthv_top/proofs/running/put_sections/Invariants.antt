use Rattle.std.proofs.Common.{◌≡◌, ◌≤◌}
use Rattle.outside.specs.Pieces.{Appends}
use Rattle.machine_defs.specs.Report.{section_of}
use Rattle.nesthv_top.specs.Seen.{names_in}
use Rattle.nesthv_top.proofs.Sectioning.{said_to}
use Rattle.nesthv_top.proofs.running.put_sections.Given as goal

abbrev pub invariant-loop-i : goal.invariant-loop-i
invariant-loop-i g l = record {
  put : Appends g.O.Sink.stands_for l.fn.out l.out (said_to section_of (names_in l.guests) l.host.machines l.i);
  count : g.O.Sink.faults l.fn.out ≤ g.O.Sink.faults l.out;
  stays : g.O.Sink.made_with l.out ≡ g.O.Sink.made_with l.fn.out;
}
