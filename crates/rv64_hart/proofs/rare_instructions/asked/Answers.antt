use Rattle.std.proofs.Common.{sym}
use Rattle.rv64_hart.proofs.rare_instructions.asked.Goals as goal

pub returns-clause-ends : goal.returns-clause-ends
returns-clause-ends c = rw (sym c.effect_of-effect.ensures) c.apply.ensures.ends
