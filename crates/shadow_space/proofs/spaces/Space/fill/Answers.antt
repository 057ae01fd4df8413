use Rattle.shadow_space.proofs.Reaching.{kept_folded}
use Rattle.shadow_space.proofs.Tidying.{held_by}
use Rattle.shadow_space.proofs.spaces.Space.fill.Goals as goal

pub fill-requires-clause-holds : goal.fill-requires-clause-holds
fill-requires-clause-holds c =
    held_by c.self.inside.index c.self.inside.table c.args.self.now c.tables_of-tables.result c.args.mem.now c.self.view_is c.tables_of-tables.ensures.value c.requires.tidy

pub returns-clause-folded : goal.returns-clause-folded
returns-clause-folded c = kept_folded c.self.inside.index c.self.inside.table c.fill.new.self c.args.mem.now c.fill.new.mem c.tables_of-tables.result c.self.invariant c.tables_of-tables.ensures.value c.fill.ensures.keeps c.fill.ensures.holds
