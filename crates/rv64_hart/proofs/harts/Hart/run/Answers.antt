use Rattle.rv64_hart.proofs.harts.Hart.run.Goals as goal

pub steps-requires-clause-serves : goal.steps-requires-clause-serves
steps-requires-clause-serves c =
    c.restart.ensures.serves c.args.self.now.state.virt.first c.args.self.now.state.tag c.args.memory.now
