use Rattle.std.proofs.Common.{Some, ap, ◌∙◌}
use Rattle.std.specs.Prelude.{option_map}
use Rattle.arch_defs.specs.declared.registers.SupervisorCsrs.{SupervisorCsrs}
use Rattle.arch_defs.specs.declared.walks.Found.TheVariants.{Passes}
use Rattle.arch_defs.specs.FirstEntries.{first_entry}
use Rattle.arch_defs.specs.Memory.{mmu, nothing_known}
use Rattle.arch_defs.specs.Translation.{first_stage, privilege_of, supervisor_of}
use Rattle.machine_defs.specs.FirstLeaves.{entry_walked}
use Rattle.rv64_hart.specs.MachineMemory.{reading_of_memory, second_of_memory}
use Rattle.rv64_hart.proofs.FirstFound.{leaf_passes}
use Rattle.rv64_hart.proofs.walked_accesses.walked.Goals as goal

pub returns-in-Some-clause-found : goal.returns-in-Some-clause-found
unfolding first_stage
returns-in-Some-clause-found c =
    ap Passes c.leaf_address.ensures.value
    ∙ leaf_passes (mmu nothing_known (second_of_memory c.args.state.now.virt c.args.memory.now) (reading_of_memory c.args.memory.now)) (privilege_of c.args.state.now.virt.csrs c.args.state.now.virt.mode) c.args.va c.args.access c.in-Some.leaf
    (supervisor_of c.args.state.now.virt.csrs c.args.state.now.virt.mode).atp (c.in-Some.ensures.value nothing_known)

pub returns-in-Some-clause-entry : goal.returns-in-Some-clause-entry
unfolding entry_walked
returns-in-Some-clause-entry c = λ known.
    ap Some (c.first_entry.ensures.value ∙ ap (λ (registers : SupervisorCsrs). first_entry c.args.state.now.tag registers.atp c.args.va c.in-Some.leaf) c.supervisor_of-atp.ensures)
    ∙ ap (option_map (first_entry c.args.state.now.tag (supervisor_of c.args.state.now.virt.csrs c.args.state.now.virt.mode).atp c.args.va)) (c.in-Some.ensures.value known)

pub returns-in-None-clause-entry : goal.returns-in-None-clause-entry
unfolding entry_walked
returns-in-None-clause-entry c = λ known.
    c.requires.none ∙ ap (option_map (first_entry c.args.state.now.tag (supervisor_of c.args.state.now.virt.csrs c.args.state.now.virt.mode).atp c.args.va)) (c.in-None.ensures.value known)
