use Rattle.std.proofs.Common.{rules}
use Rattle.rv64_hart.proofs.rare_instructions.apply.Goals as goal

pub returns-in-Sets-clause-left : goal.returns-in-Sets-clause-left
returns-in-Sets-clause-left c =
    record {
      stays = tt;
      serves = c.cache.ensures.serves c.args.state.now.tag c.args.state.now.virt.csrs c.args.state.now.virt.mode c.args.memory.now c.requires.serves;
      plain = search rules;
    }
