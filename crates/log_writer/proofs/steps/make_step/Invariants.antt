use Rattle.std.proofs.Common.{◌≡◌, ◌≤◌, ◌++◌, true}
use Rattle.machine_defs.specs.Fills.{fills, most_fills}
use Rattle.run_log.specs.Fills.{next_filled}
use Rattle.run_log.specs.Seen.{seen_from}
use Rattle.log_writer.specs.Steps.{second_lines}
use Rattle.log_writer.proofs.Making.{IsFilled}
use Rattle.log_writer.proofs.Putting.{PutsRest}
use Rattle.log_writer.proofs.StaleNotes.{notes_left}
use Rattle.log_writer.proofs.steps.make_step.Given as goal

abbrev pub decreases-loop-made : goal.decreases-loop-made
decreases-loop-made g l = fills (most_fills (g.R.TryRunner.machine l.runner)) (g.R.TryRunner.machine l.runner)

abbrev pub invariant-loop-made : goal.invariant-loop-made
invariant-loop-made g l = record {
  filled : IsFilled (g.R.TryRunner.machine l.fn.runner) (g.R.TryRunner.machine l.runner);
  left : PutsRest g.O.Sink.stands_for l.fn.out l.out
      (second_lines l.kinds.fills (seen_from l.before.number (g.R.TryRunner.machine l.fn.runner)) (next_filled (g.R.TryRunner.machine l.runner)))
      (second_lines l.kinds.fills (seen_from l.before.number (g.R.TryRunner.machine l.fn.runner)) (next_filled (g.R.TryRunner.machine l.fn.runner)));
  noted : l.kinds.stale ≡ true
      → l.stale.steps ++ notes_left (g.R.TryRunner.machine l.fn.runner).platform.virt.csrs.hgatp l.before.number (g.R.TryRunner.machine l.runner)
      ≡ l.fn.stale.steps ++ notes_left (g.R.TryRunner.machine l.fn.runner).platform.virt.csrs.hgatp l.before.number (g.R.TryRunner.machine l.fn.runner);
  count : g.O.Sink.faults l.fn.out ≤ g.O.Sink.faults l.out;
}
