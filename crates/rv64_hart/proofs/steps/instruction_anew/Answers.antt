use Rattle.std.proofs.Common.{◌≡◌, None, ap, sym, ◌∙◌}
use Rattle.std.specs.Prelude.{ok_or, option_map}
use Rattle.arch_defs.specs.FirstEntries.{all_filled}
use Rattle.machine_defs.specs.Core.{At, core, fetch_place, instruction, word_at}
use Rattle.machine_defs.specs.FirstLeaves.{entries_of}
use Rattle.rv64_hart.specs.Endings.{attempt_at, told_of}
use Rattle.rv64_hart.specs.MachineMemory.{found_on, mmu_on, reading_of_memory}
use Rattle.rv64_hart.proofs.FirstFound.{goes_on_at}
use Rattle.rv64_hart.proofs.Places.{failed, found}
use Rattle.rv64_hart.proofs.steps.instruction_anew.Goals as goal

pub returns-in-Some-clause-told : goal.returns-in-Some-clause-told
returns-in-Some-clause-told c =
    let at : fetch_place (mmu_on c.args.state.now c.args.memory.now) c.args.state.now.virt ≡ At c.in-Some.place =
    found c.args.state.now.virt.csrs c.args.memory.now _ c.in-Some.place (ap (λ r. ok_or r c.reach_by.new.trap) (sym c.in-Some.is) ∙ c.reach_by.ensures.place) in
    ap (told_of c.args.tally.now.trace) (goes_on_at c.args.state.now c.args.memory.now c.in-Some.place (entries_of c.reach_by.new.entry) at (sym c.reach_by.ensures.entry)
    ∙ ap (λ xs. attempt_at xs c.args.state.now c.args.memory.now (word_at (reading_of_memory c.args.memory.now) c.in-Some.place)) (ap entries_of (sym c.as_ref.ensures.value))
    ∙ ap (attempt_at (entries_of (option_map (λ e. e.now) c.as_ref.result)) c.args.state.now c.args.memory.now) (sym c.word_at.ensures))
    ∙ c.counted.ensures.told

pub returns-in-None-clause-told : goal.returns-in-None-clause-told
unfolding core
returns-in-None-clause-told c =
    ap (told_of c.args.tally.now.trace) (failed c.args.state.now c.args.memory.now (fetch_place (mmu_on c.args.state.now c.args.memory.now) c.args.state.now.virt) c.reach_by.new.trap
    (ap (λ r. ok_or r c.reach_by.new.trap) (sym c.in-None.is) ∙ c.reach_by.ensures.place) (all_filled c.args.state.now.virt.first (found_on c.args.state.now c.args.memory.now)) None
    (λ place. instruction (mmu_on c.args.state.now c.args.memory.now) c.args.state.now.virt (word_at (reading_of_memory c.args.memory.now) place)))
