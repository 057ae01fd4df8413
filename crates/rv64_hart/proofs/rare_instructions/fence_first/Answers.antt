use Rattle.rv64_hart.proofs.rare_instructions.fence_first.Goals as goal

pub returns-clause-serves : goal.returns-clause-serves
returns-clause-serves c = λ memory serves. c.fence.ensures.serves c.args.state.now.tag memory serves
