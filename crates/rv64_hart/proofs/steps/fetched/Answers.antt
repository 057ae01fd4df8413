use Rattle.std.proofs.Common.{[], ap, sym, ◌∙◌}
use Rattle.arch_defs.specs.declared.modes.Access.TheVariants.{Fetch}
use Rattle.arch_defs.specs.declared.widths.Width.TheVariants.{Word}
use Rattle.rv64_hart.specs.Endings.{attempt_of_word}
use Rattle.rv64_hart.specs.Lookups.{IsMadeAt}
use Rattle.rv64_hart.proofs.FirstFound.{goes_on_at, word_ends}
use Rattle.rv64_hart.proofs.Lookups.{made_by}
use Rattle.rv64_hart.proofs.steps.fetched.Goals as goal

pub word_at-requires : goal.word_at-requires
word_at-requires c =
    (made_by c.args.state.now c.args.memory.now c.args.state.now.virt.regs.pc Word Fetch c.fetch_lookup-lookup.result c.in-Some.place c.in-Some.ensures c.fetch_lookup-lookup.ensures.told).fits

pub returns-in-Some-clause-next : goal.returns-in-Some-clause-next
returns-in-Some-clause-next c =
    let made : IsMadeAt c.args.state.now c.args.memory.now c.args.state.now.virt.regs.pc Word Fetch c.in-Some.place =
    made_by c.args.state.now c.args.memory.now c.args.state.now.virt.regs.pc Word Fetch c.fetch_lookup-lookup.result c.in-Some.place c.in-Some.ensures c.fetch_lookup-lookup.ensures.told in
    goes_on_at c.args.state.now c.args.memory.now c.in-Some.place [] made.located made.none
    ∙ word_ends c.args.state.now c.args.memory.now _ ∙ ap (attempt_of_word c.args.state.now c.args.memory.now) (sym c.word_at.ensures)
