use Rattle.std.proofs.Common.{◌-◌, ◌≤◌}
use Rattle.translation_buffer.specs.Serving.{ServesHart}
use Rattle.rv64_hart.specs.Counts.{OnlyTrace}
use Rattle.rv64_hart.specs.Endings.{KeepsContext, RunsPlain}
use Rattle.rv64_hart.proofs.plain_steps.stretches.Given as goal

abbrev pub invariant-loop-taken : goal.invariant-loop-taken
invariant-loop-taken l = record {
  steps : RunsPlain l.taken l.fn.state l.fn.memory l.fn.tally.trace l.state l.memory l.tally.trace;
  within : l.taken ≤ l.limit;
  serves : ServesHart l.buffer l.state l.memory;
  tally : OnlyTrace l.fn.tally l.tally;
  context : KeepsContext l.fn.state.virt l.state.virt;
}

abbrev pub decreases-loop-taken : goal.decreases-loop-taken
decreases-loop-taken l = l.limit - l.taken
