use Rattle.std.proofs.Common.{ap}
use Rattle.machine_defs.specs.FirstLeaves.{entries_of}
use Rattle.rv64_hart.specs.MachineMemory.{known_on}
use Rattle.rv64_hart.proofs.walked_accesses.first_stage_anew.Goals as goal

pub returns-clause-found : goal.returns-clause-found
returns-clause-found c = rw (c.requires.unknown) c.walked.ensures.found

pub returns-clause-entry : goal.returns-clause-entry
returns-clause-entry c = rw (c.requires.unknown) (ap entries_of (c.walked.ensures.entry (known_on c.args.state.now)))
