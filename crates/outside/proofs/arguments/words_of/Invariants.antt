use Rattle.outside.specs.Arguments.{AreFirst}
use Rattle.outside.proofs.arguments.words_of.Given as goal

abbrev pub invariant-loop-i : goal.invariant-loop-i
invariant-loop-i g l = AreFirst (g.A.Arguments.given l.arguments) l.i l.words.items
