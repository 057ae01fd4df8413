-- How a try ends, where nothing need be known of what its instruction leaves.
use Rattle.std.proofs.Common.{Option}
use Rattle.arch_defs.specs.declared.cached.Fence.{Fence}
use Rattle.arch_defs.specs.declared.registers.Virtual.{Virtual}
use Rattle.arch_defs.specs.Memory.{ram_memory}
use Rattle.op_defs.specs.declared.ops.DataAccess.{DataAccess}
use Rattle.machine_defs.specs.Core.{Completion}
use Rattle.machine_defs.specs.Machine.{Machine, Tried, with_first}
use Rattle.machine_defs.specs.Outcomes.{Outcome, Done, Trapped, Missed, Called, Waits, Fenced, FirstFenced, Accesses}
use Rattle.machine_defs.specs.Tries.{fence_under, outcome_under, stages_of, try}
use Rattle.instruction_laws.specs.InstructionEnds.{OutcomeHas}
use Rattle.instruction_laws.proofs.Completions.{hlv_each}
use Rattle.instruction_laws.proofs.TryEnds.{TryEnd, try_end}

abbrev pub SomeEnd : Machine → Tried → Option Fence → Type 0
SomeEnd m tried fence = TryEnd (λ (completion : Completion). Unit {0}) (λ (virt : Virtual). Unit {0}) m tried fence

any_outcome : (o : Outcome) → OutcomeHas (λ (completion : Completion). Unit {0}) (λ (virt : Virtual). Unit {0}) (λ (wanted : DataAccess). Unit {0}) o
any_outcome (Done state stored event) = tt
any_outcome (Trapped trap) = tt
any_outcome (Missed missing wanted) = tt
any_outcome Called = tt
any_outcome (Waits state) = tt
any_outcome (Fenced state fence) = tt
any_outcome (FirstFenced state named fence) = tt
any_outcome (Accesses wanted) = tt

pub some_end : (m : Machine) → SomeEnd m (try m) (fence_under (stages_of m) m)
some_end m = try_end _ _ (λ (wanted : DataAccess). Unit {0}) m (stages_of m)
    (λ first wanted any. hlv_each (λ (completion : Completion). Unit {0}) m.device (ram_memory m.ram) (with_first m first).platform.virt wanted (λ place. tt))
    (any_outcome (outcome_under (stages_of m) m))
