use Rattle.arch_defs.specs.declared.modes.Access.TheVariants.{Fetch}
use Rattle.arch_defs.specs.declared.widths.Width.TheVariants.{Word}
use Rattle.rv64_hart.proofs.Places.{at_place_found, nothing_found}
use Rattle.rv64_hart.proofs.accesses.last_place.Goals as goal

pub returns-in-Some-clause-located : goal.returns-in-Some-clause-located
returns-in-Some-clause-located c =
    at_place_found c.args.state.now c.args.memory.now c.args.pc Word Fetch c.in-Some.place c.in-Some.ensures.aligned c.in-Some.ensures.place

pub returns-in-Some-clause-none : goal.returns-in-Some-clause-none
returns-in-Some-clause-none c =
    nothing_found c.args.state.now c.args.memory.now c.args.pc Word Fetch c.in-Some.place c.in-Some.ensures.place
