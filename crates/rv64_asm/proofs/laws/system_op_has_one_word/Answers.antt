use Rattle.rv64_asm.proofs.SystemOps.{op_has_one_word}
use Rattle.rv64_asm.proofs.laws.system_op_has_one_word.Goals as goal

pub returns : goal.returns
returns c = op_has_one_word
