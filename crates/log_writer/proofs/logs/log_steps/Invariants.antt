use Rattle.std.proofs.Common.{◌+◌, ◌-◌}
use Rattle.log_writer.proofs.LoggedSteps.{IsLoggedTo}
use Rattle.log_writer.proofs.logs.log_steps.Given as goal

abbrev pub decreases-loop-next : goal.decreases-loop-next
decreases-loop-next g l = l.from + l.steps - l.next

abbrev pub invariant-loop-next : goal.invariant-loop-next
invariant-loop-next g l =
    IsLoggedTo g.O.Sink l.kinds l.from l.steps (g.R.TryRunner.machine l.fn.runner) l.fn.out l.next
    (g.R.TryRunner.machine l.runner) l.counts l.stale.steps l.out
