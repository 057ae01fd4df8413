use Rattle.rv64_hart.proofs.harts.Hart.run_plain.Goals as goal

pub plain_steps-taken-requires : goal.plain_steps-taken-requires
plain_steps-taken-requires c = record {
  serves = c.restart.ensures.serves c.args.self.now.state.virt.first c.args.self.now.state.tag c.args.memory.now;
}
