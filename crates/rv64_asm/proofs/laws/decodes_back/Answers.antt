use Rattle.rv64_asm.proofs.Coding.{decodes}
use Rattle.rv64_asm.proofs.laws.decodes_back.Goals as goal

pub returns : goal.returns
returns c = decodes
