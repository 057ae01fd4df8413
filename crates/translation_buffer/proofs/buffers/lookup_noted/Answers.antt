use Rattle.std.proofs.Common.{rules, ◌≡◌, Some, None, sym, subst, ◌∙◌}
use Rattle.arch_defs.specs.Memory.{machine_memory}
use Rattle.arch_defs.specs.Translation.{privilege_of}
use Rattle.two_stage_walk.specs.Reads.{SecondReads}
use Rattle.translation_buffer.specs.Places.{passed_under, translator}
use Rattle.translation_buffer.proofs.KeptPlaces.{none_passed}
use Rattle.translation_buffer.proofs.OnePage.{same_some}
use Rattle.translation_buffer.proofs.buffers.lookup_noted.Goals as goal

pub returns-in-Some-clause-noted : goal.returns-in-Some-clause-noted
returns-in-Some-clause-noted c =
    let says : passed_under (translator c.args.state.now.virt.first c.args.state.now.tag c.args.context.now) (privilege_of c.args.state.now.virt.csrs c.args.state.now.virt.mode) c.args.va c.args.access ≡ Some c.in-Some.address = search rules in
    λ frames fewer address is. subst (λ a. SecondReads frames (machine_memory c.args.memory.now) a c.args.access c.args.context.now.second)
    (same_some c.in-Some.address address (sym says ∙ is)) (c.second_noted-answer.ensures.noted frames fewer)

pub returns-in-None-clause-noted : goal.returns-in-None-clause-noted
returns-in-None-clause-noted c =
    let says : passed_under (translator c.args.state.now.virt.first c.args.state.now.tag c.args.context.now) (privilege_of c.args.state.now.virt.csrs c.args.state.now.virt.mode) c.args.va c.args.access ≡ None = search rules in
    λ frames fewer address is. none_passed address (sym says ∙ is)
