use Rattle.rv64_asm.proofs.SystemWords.{has_one_word}
use Rattle.rv64_asm.proofs.laws.system_has_one_word.Goals as goal

pub returns : goal.returns
returns c = has_one_word
