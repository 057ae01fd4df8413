use Rattle.std.proofs.Common.{arith}
use Rattle.table_words.proofs.Words.{changed_none}
use Rattle.shadow_space.proofs.writing.leave_table.Goals as goal

pub returns-else-frames-j-eq1-clause-changed : goal.returns-else-frames-j-eq1-clause-changed
returns-else-frames-j-eq1-clause-changed c = omega (arith, changed_none c.args.mem.now)
