use Rattle.hcsr_emulation.proofs.Decided.{asks_it}
use Rattle.hcsr_emulation.proofs.emulation.perform_effect.Goals as goal

pub unreachable-requires : goal.unreachable-requires
unreachable-requires c =
    asks_it c.args.op.now c.args.state.now.regs c.effect_of.result c.requires c.effect_of.ensures c.in_default.not-Privileged
