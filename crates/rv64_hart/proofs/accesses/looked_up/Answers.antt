use Rattle.std.proofs.Common.{rules, ◌≡◌, ◌%◌}
use Rattle.arch_defs.specs.Widths.{bytes_in}
use Rattle.rv64_hart.proofs.Lookups.{told}
use Rattle.rv64_hart.proofs.accesses.looked_up.Goals as goal

pub returns-clause-told : goal.returns-clause-told
returns-clause-told c =
    let aligned : c.args.access.va % bytes_in c.args.access.width ≡ 0 = search rules in
    told c.args.state.now c.args.memory.now c.args.access.va c.args.access.width c.args.access.kind c.look_up.result aligned c.is_whole.ensures c.look_up.ensures.lookup c.look_up.ensures.inside
