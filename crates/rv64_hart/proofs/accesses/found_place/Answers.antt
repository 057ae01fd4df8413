use Rattle.std.proofs.Common.{rules, ◌≡◌, ◌%◌}
use Rattle.arch_defs.specs.Widths.{bytes_in}
use Rattle.rv64_hart.proofs.Places.{at_place_found}
use Rattle.rv64_hart.proofs.accesses.found_place.Goals as goal

pub returns-in-Some-clause-located : goal.returns-in-Some-clause-located
returns-in-Some-clause-located c =
    let aligned : c.args.access.va % bytes_in c.args.access.width ≡ 0 = search rules in
    at_place_found c.args.state.now c.args.memory.now c.args.access.va c.args.access.width c.args.access.kind c.in-Some.place aligned c.in-Some.ensures.place
