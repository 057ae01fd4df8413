use Rattle.std.proofs.Common.{arith}
use Rattle.table_words.proofs.Words.{changed_none}
use Rattle.shadow_space.proofs.writing.enter_table.Goals as goal

pub returns-then-pointer-ne0-clause-changed : goal.returns-then-pointer-ne0-clause-changed
returns-then-pointer-ne0-clause-changed c = omega (arith, changed_none c.args.mem.now)
