use Rattle.std.proofs.Common.{◌∙◌}
use Rattle.shadow_space.proofs.Dropping.{none_unnamed}
use Rattle.shadow_space.proofs.Reaching.{kept_folded}
use Rattle.shadow_space.proofs.Tidying.{held_by}
use Rattle.shadow_space.proofs.spaces.Space.wipe.Goals as goal

pub drop_named-requires : goal.drop_named-requires
drop_named-requires c =
    held_by c.self.inside.index c.self.inside.table c.args.self.now c.tables_of-tables.result c.args.mem.now c.self.view_is c.tables_of-tables.ensures.value c.requires.tidy

pub returns-clause-entries : goal.returns-clause-entries
returns-clause-entries c = c.drop_named.ensures.entries ∙ none_unnamed c.self.inside.table.entries

pub returns-clause-folded : goal.returns-clause-folded
returns-clause-folded c = kept_folded c.self.inside.index c.self.inside.table c.drop_named.new.self c.args.mem.now c.drop_named.new.mem c.tables_of-tables.result c.self.invariant c.tables_of-tables.ensures.value c.drop_named.ensures.keeps c.drop_named.ensures.holds
