use Rattle.std.proofs.Common.{ap, sym, ◌∙◌}
use Rattle.std.specs.Prelude.{ok_or}
use Rattle.op_defs.specs.Table.{op_of}
use Rattle.instruction_laws.specs.MissedPlaces.{wanted_of}
use Rattle.machine_defs.specs.FirstLeaves.{entries_of}
use Rattle.rv64_hart.specs.MachineMemory.{found_by_wanted, found_on, mmu_on}
use Rattle.rv64_hart.proofs.FirstFound.{found_nowhere, leaves_at, leaves_nowhere, op_found}
use Rattle.rv64_hart.proofs.Places.{found}
use Rattle.rv64_hart.proofs.leaves.next_instruction.Goals as goal

pub returns-in-Some-clause-found : goal.returns-in-Some-clause-found
unfolding found_on
returns-in-Some-clause-found c =
    let s = c.args.state.now in
    let memory = c.args.memory.now in
    leaves_at s.tag (mmu_on s memory) s.virt c.in-Some.place (entries_of c.reach.new.entry) (entries_of c.find_wanted.new.entry)
    (found s.virt.csrs memory _ c.in-Some.place (ap (λ r. ok_or r c.reach.new.trap) (sym c.in-Some.is) ∙ c.reach.ensures.place)) c.reach.ensures.entry
    (c.find_wanted.ensures.value ∙ ap (found_by_wanted s memory) (c.wanted_of-wanted.ensures ∙ ap (λ word. wanted_of s.virt (op_of word)) c.word_at.ensures)
    ∙ op_found s memory _)

pub returns-in-None-clause-found : goal.returns-in-None-clause-found
unfolding found_on
returns-in-None-clause-found c =
    let s = c.args.state.now in
    rw c.requires.none.1 (leaves_nowhere s.tag (mmu_on s c.args.memory.now) s.virt (entries_of c.reach.new.entry)
    (found_nowhere s.tag (mmu_on s c.args.memory.now) s.virt s.virt.csrs c.args.memory.now _ _ (ap (λ r. ok_or r c.reach.new.trap) (sym c.in-None.is) ∙ c.reach.ensures.place)) c.reach.ensures.entry)
