use Rattle.std.proofs.Common.{◌≡◌, ◌-◌, ◌≤◌, Some, false}
use Rattle.rv64_hart.specs.Counts.{OnlyTrace}
use Rattle.translation_buffer.specs.Serving.{ServesHart}
use Rattle.rv64_hart.specs.Endings.{NoneDueIfQuiet}
use Rattle.rv64_hart.specs.Steps.{hart_steps, progress}
use Rattle.rv64_hart.proofs.harts.steps.Given as goal

abbrev pub invariant-loop-taken : goal.invariant-loop-taken
invariant-loop-taken l = record {
  steps : hart_steps l.watch l.taken (progress l.fn.state l.fn.memory l.fn.tally.trace false)
      ≡ Some (progress l.state l.memory l.tally.trace false);
  within : l.taken ≤ l.limit;
  serves : ServesHart l.buffer l.state l.memory;
  quiet : NoneDueIfQuiet l.quiet l.state.virt;
  tally : OnlyTrace l.fn.tally l.tally;
}

abbrev pub decreases-loop-taken : goal.decreases-loop-taken
decreases-loop-taken l = l.limit - l.taken
