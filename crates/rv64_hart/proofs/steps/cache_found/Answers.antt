use Rattle.rv64_hart.proofs.steps.cache_found.Goals as goal

pub returns-clause-serves : goal.returns-clause-serves
returns-clause-serves c =
    c.cache-2.ensures.serves c.args.state.now.tag c.args.state.now.virt.csrs c.args.state.now.virt.mode c.args.memory.now
    (c.cache.ensures.serves c.args.state.now.tag c.args.state.now.virt.csrs c.args.state.now.virt.mode c.args.memory.now c.requires.serves)
