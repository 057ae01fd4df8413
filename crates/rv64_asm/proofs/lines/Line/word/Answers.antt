use Rattle.std.proofs.Common.{arith}
use Rattle.rv64_asm.specs.Plans.{item_fault}
use Rattle.rv64_asm.proofs.Faultless.{reaching_fits}
use Rattle.rv64_asm.proofs.lines.Line.word.Goals as goal

pub encode-requires-in-Some : goal.encode-requires-in-Some
unfolding item_fault
encode-requires-in-Some c = grind (arith, reaching_fits)
