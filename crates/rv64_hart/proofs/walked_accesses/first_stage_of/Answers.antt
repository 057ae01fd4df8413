use Rattle.std.proofs.Common.{ap, refl, ◌∙◌}
use Rattle.std.specs.Prelude.{option_map}
use Rattle.arch_defs.specs.declared.registers.SupervisorCsrs.{SupervisorCsrs}
use Rattle.arch_defs.specs.FirstEntries.{first_entry}
use Rattle.arch_defs.specs.Translation.{first_stage, privilege_of, supervisor_of}
use Rattle.machine_defs.specs.FirstLeaves.{entries_of, entry_walked, leaf_under}
use Rattle.translation_buffer.specs.Places.{passed_by}
use Rattle.rv64_hart.specs.MachineMemory.{known_on, mmu_on, reading_of_memory, second_of_memory}
use Rattle.rv64_hart.proofs.FirstFound.{not_known, passes, passes_without}
use Rattle.rv64_hart.proofs.walked_accesses.first_stage_of.Goals as goal

pub returns-in-Some-clause-found : goal.returns-in-Some-clause-found
unfolding first_stage
returns-in-Some-clause-found c =
    passes c.args.state.now.virt.first c.args.state.now.tag (second_of_memory c.args.state.now.virt c.args.memory.now) (reading_of_memory c.args.memory.now) (privilege_of c.args.state.now.virt.csrs c.args.state.now.virt.mode) c.args.va c.in-Some.address c.args.access
    (supervisor_of c.args.state.now.virt.csrs c.args.state.now.virt.mode).atp (c.in-Some.ensures.value
    ∙ ap (λ (r : SupervisorCsrs). passed_by c.args.state.now.virt.first c.args.state.now.tag (privilege_of c.args.state.now.virt.csrs c.args.state.now.virt.mode) r.atp c.args.va c.args.access) c.supervisor_of-atp.ensures)

pub returns-in-Some-clause-entry : goal.returns-in-Some-clause-entry
unfolding entry_walked
returns-in-Some-clause-entry c =
    ap entries_of c.requires.none
    ∙ passes_without c.args.state.now.virt.first c.args.state.now.tag (privilege_of c.args.state.now.virt.csrs c.args.state.now.virt.mode) c.args.va c.in-Some.address c.args.access (supervisor_of c.args.state.now.virt.csrs c.args.state.now.virt.mode).atp
    (λ root. option_map (first_entry c.args.state.now.tag (supervisor_of c.args.state.now.virt.csrs c.args.state.now.virt.mode).atp c.args.va)
    (leaf_under (mmu_on c.args.state.now c.args.memory.now) (privilege_of c.args.state.now.virt.csrs c.args.state.now.virt.mode) c.args.va c.args.access root))
    refl (c.in-Some.ensures.value
    ∙ ap (λ (r : SupervisorCsrs). passed_by c.args.state.now.virt.first c.args.state.now.tag (privilege_of c.args.state.now.virt.csrs c.args.state.now.virt.mode) r.atp c.args.va c.args.access) c.supervisor_of-atp.ensures)

pub returns-in-None-clause-found : goal.returns-in-None-clause-found
returns-in-None-clause-found c =
    rw (not_known c.args.state.now.virt.first c.args.state.now.tag (privilege_of c.args.state.now.virt.csrs c.args.state.now.virt.mode) c.args.va c.args.access (supervisor_of c.args.state.now.virt.csrs c.args.state.now.virt.mode).atp (c.in-None.ensures.value
    ∙ ap (λ (r : SupervisorCsrs). passed_by c.args.state.now.virt.first c.args.state.now.tag (privilege_of c.args.state.now.virt.csrs c.args.state.now.virt.mode) r.atp c.args.va c.args.access) c.supervisor_of-atp.ensures))
    c.walked.ensures.found

pub returns-in-None-clause-entry : goal.returns-in-None-clause-entry
returns-in-None-clause-entry c =
    rw (not_known c.args.state.now.virt.first c.args.state.now.tag (privilege_of c.args.state.now.virt.csrs c.args.state.now.virt.mode) c.args.va c.args.access (supervisor_of c.args.state.now.virt.csrs c.args.state.now.virt.mode).atp (c.in-None.ensures.value
    ∙ ap (λ (r : SupervisorCsrs). passed_by c.args.state.now.virt.first c.args.state.now.tag (privilege_of c.args.state.now.virt.csrs c.args.state.now.virt.mode) r.atp c.args.va c.args.access) c.supervisor_of-atp.ensures))
    (ap entries_of (c.walked.ensures.entry (known_on c.args.state.now)))
