use Rattle.rv64_hart.proofs.rare_instructions.settle.Goals as goal

pub returns-clause-serves : goal.returns-clause-serves
returns-clause-serves c = λ before mode_before memory serves.
    c.follow.ensures c.cache.new.first c.args.state.now.tag before mode_before memory (c.cache.ensures.serves c.args.state.now.tag before mode_before memory serves)
