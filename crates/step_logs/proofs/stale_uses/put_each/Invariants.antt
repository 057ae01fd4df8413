use Rattle.std.proofs.Common.{◌≤◌, map, take}
use Rattle.outside.specs.Pieces.{Appends}
use Rattle.run_log.specs.Log.{text_of_lines}
use Rattle.step_logs.specs.StaleUses.{line_of_stale}
use Rattle.step_logs.proofs.stale_uses.put_each.Given as goal

abbrev pub invariant-loop-i : goal.invariant-loop-i
invariant-loop-i g l = record {
  put : Appends g.O.Sink.stands_for l.fn.out l.out (text_of_lines (map (line_of_stale l.before l.steps) (take l.i l.stale)));
  count : g.O.Sink.faults l.fn.out ≤ g.O.Sink.faults l.out;
}
