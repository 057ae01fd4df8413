use Rattle.translation_buffer.specs.Serving.{ServesHart}
use Rattle.rv64_hart.specs.Counts.{OnlyTrace}
use Rattle.rv64_hart.specs.Endings.{IsNext, KeepsContext, RunsPlain}
use Rattle.rv64_hart.proofs.steps.common_instructions.Given as goal

abbrev pub invariant-loop-made : goal.invariant-loop-made
invariant-loop-made l = record {
  steps : RunsPlain l.made l.fn.state l.fn.memory l.fn.tally.trace l.state l.memory l.trace;
  next : IsNext l.word l.state l.memory;
  tally : OnlyTrace l.fn.tally l.tally;
  serves : ServesHart l.buffer l.state l.memory;
  context : KeepsContext l.fn.state.virt l.state.virt;
}
