use Rattle.rv64_hart.proofs.accesses.turned.Goals as goal

pub returns-clause-serves : goal.returns-clause-serves
returns-clause-serves c =
    c.turn.ensures.serves c.args.state.now.virt.first c.args.state.now.tag c.args.state.now.virt.csrs c.args.state.now.virt.mode c.args.memory.now c.looked_up-lookup.ensures.serves
